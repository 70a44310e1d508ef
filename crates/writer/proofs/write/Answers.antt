-- Nothing is put before the limits are kept and the room is there; then the total is the file's length.
use mathlib.Core.Path.{refl, ◌∙◌}
use mathlib.Core.Logic.{inl, inr}
use mathlib.Core.List.{List}
use Prim.Native.Nat.{ℕ, ◌≤◌}
use native.Mathlib.Nat.{zero-add}
use native.Mathlib.Omega.{arith}
use lib.ListN.{length}
use Rattle.std.proofs.lemmas.Result.{err_from_is_err_and}
use Rattle.job.specs.declared.record.Job.{Job}
use Rattle.job.specs.Limits.{limits, Acceptable}
use Rattle.job.proofs.Refusing.{accepted, passes, refuses, stop_first, then_first}
use Rattle.layout.specs.Layout.{file_of}
use Rattle.layout.proofs.Injective.{file_length}
use Rattle.buffer.specs.Put.{Fits}
use Rattle.writer.specs.Writing.{total_for}
use Rattle.writer.proofs.Theorems.{roomy}
use Rattle.writer.proofs.write.Goals as goal

-- the file is as long as the total, and there is room for it
room : {j : Job} {buf : List ℕ} → Acceptable j → total_for j ≤ length buf → Fits buf 0 (file_of j)
room a h = record { room = omega (arith, file_length _ a.shaped) }

pub returns-in_err-check : goal.returns-in_err-check
returns-in_err-check c =
    let why = c.in_err-check.field-0.0 in
    let p = err_from_is_err_and c.from_residual.result c.from_residual.ensures.1 in
    rw (p.1, p.2)
    (record {
      first = stop_first (limits c.args.j) (roomy c.args.j (length c.args.buf.now)) _ (refuses why) c.in_err-check.ensures;
      claim = (c.in_err-check.ensures, refuses why, refl);
    })

pub returns-then-buf-total : goal.returns-then-buf-total
returns-then-buf-total c =
    let j = c.args.j in
    let a = accepted j refl c.in_ok-check.ensures in
    let e = rw (c.from.ensures, c.from-2.ensures, c.from-3.ensures) at c.total_of-total.ensures in
    record { first = then_first (limits j) (roomy j (length c.args.buf.now)) 17 (passes a) (inr ((λ h. omega arith), refl)); claim = (e, refl) }

pub put_job-requires : goal.put_job-requires
put_job-requires c =
    let a = accepted c.args.j refl c.in_ok-check.ensures in
    let e = rw (c.from.ensures, c.from-2.ensures, c.from-3.ensures) at c.total_of-total.ensures in
    (a, room a (omega arith))

pub returns : goal.returns
returns c =
    let j = c.args.j in
    let a = accepted _ refl c.in_ok-check.ensures in
    let e = rw (c.from.ensures, c.from-2.ensures, c.from-3.ensures) at c.total_of-total.ensures in
    record {
      first = then_first (limits j) (roomy j (length c.args.buf.now)) 0 (passes a) (inl (omega arith, refl));
      claim = (c.put_job.ensures.next ∙ zero-add _ ∙ file_length j a.shaped, c.put_job.ensures.all);
    }
