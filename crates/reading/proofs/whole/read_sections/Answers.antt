use Rattle.std.proofs.lemmas.Result.{err_from_is_err_and}
use Rattle.reading.proofs.Pictures.{backpointers-fail, entries-fail, records-fail, sections-read}
use Rattle.reading.proofs.whole.read_sections.Goals as goal

pub returns-in_err-entries-clause-reading : goal.returns-in_err-entries-clause-reading
returns-in_err-entries-clause-reading c =
    let p = err_from_is_err_and c.from_residual.result c.from_residual.ensures.1 in
    rw (p.1, p.2) (entries-fail c.args.s.now c.args.head _ c.in_err-entries.ensures.reading)

pub returns-in_err-backpointers-clause-reading : goal.returns-in_err-backpointers-clause-reading
returns-in_err-backpointers-clause-reading c =
    let p = err_from_is_err_and c.from_residual-in_err-backpointers.result c.from_residual-in_err-backpointers.ensures.1 in
    rw (p.1, p.2) (backpointers-fail c.args.s.now c.args.head _ c.in_ok-entries.ensures.reading _ c.in_err-backpointers.ensures.reading)

pub returns-in_err-records-clause-reading : goal.returns-in_err-records-clause-reading
returns-in_err-records-clause-reading c =
    let p = err_from_is_err_and c.from_residual-in_err-records.result c.from_residual-in_err-records.ensures.1 in
    rw (p.1, p.2) (records-fail c.args.s.now c.args.head _ c.in_ok-entries.ensures.reading _ c.in_ok-backpointers.ensures.reading _ c.in_err-records.ensures.reading)

pub returns-clause-reading : goal.returns-clause-reading
returns-clause-reading c = sections-read c.args.s.now c.args.head _ c.in_ok-entries.ensures.reading _ c.in_ok-backpointers.ensures.reading _ c.in_ok-records.ensures.reading
