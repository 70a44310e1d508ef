-- A refusal of the header or of the record is one of the bytes; without one the record is acceptable.
use mathlib.Core.Path.{refl}
use Rattle.std.proofs.lemmas.Result.{err_from_is_err_and}
use Rattle.job.proofs.Refusing.{accepted, refuses, stop_first}
use Rattle.header.specs.Header.{head_checks}
use Rattle.header.proofs.HeaderLaws.{later}
use Rattle.reader.specs.Reading.{file_checks}
use Rattle.reader.proofs.Replying.{headed, record_first}
use Rattle.reader.proofs.reading.read.Goals as goal

pub returns-in_err-check : goal.returns-in_err-check
returns-in_err-check c =
    let s = c.args.s.now in
    let p = err_from_is_err_and c.from_residual.result c.from_residual.ensures.1 in
    rw (p.1, p.2) (stop_first (head_checks s) (later 5 (file_checks s)) _ (refuses c.in_err-check.field-0.0) c.in_err-check.ensures)

pub job_of-j-requires : goal.job_of-j-requires
job_of-j-requires c = headed c.args.s.now c.in_ok-check.ensures

pub returns-in_err-check-2 : goal.returns-in_err-check-2
returns-in_err-check-2 c =
    let p = err_from_is_err_and c.from_residual-in_err-check-2.result c.from_residual-in_err-check-2.ensures.1 in
    rw (p.1, p.2) (record_first c.args.s.now (headed c.args.s.now c.in_ok-check.ensures) _ c.job_of-j.ensures _ c.in_err-check-2.ensures)

pub returns : goal.returns
returns c = (accepted _ refl c.in_ok-check-2.ensures, c.job_of-j.ensures.file)
