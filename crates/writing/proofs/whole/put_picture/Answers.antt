use Rattle.std.proofs.Common.{refl, rules}
use Rattle.tables.proofs.Known.{sized-partition}
use Rattle.writing.proofs.Pictures.{picture-laid}
use Rattle.writing.proofs.whole.put_picture.Goals as goal

pub returns : goal.returns
returns c =
    picture-laid c.args.x (search (sized-partition, rules)) c.requires.0 c.args.head c.args.buf.now _ _ _ _ _ _ _ _ _ c.put_head.ensures
    (rw c.listed.ensures.elements at c.put_all-a.ensures)
    (rw c.listed-2.ensures.elements at c.put_all-b.ensures)
    (rw c.listed-3.ensures.elements at c.put_all-c.ensures)
    refl c.put_close.ensures c.requires.1
