pub mod Loses
