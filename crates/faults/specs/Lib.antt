pub mod Suffered
