-- The digits before the last, then the last: f bounds how many, and falls with each call.
use native.Mathlib.Omega.{arith}
use Rattle.buffer.proofs.Putting.{none, put_as, same_length}
use Rattle.print.proofs.Numerals.{digits_none, only_place, only_put, leading_room, last_place, last_put}
use Rattle.print.proofs.numbers.+put_digits.Goals as goal

pub returns-then-f-eq0 : goal.returns-then-f-eq0
returns-then-f-eq0 t c = put_as (digits_none _ _ c.if-f-eq0.true) (none _ _)

pub bounds-out-at : goal.bounds-out-at
bounds-out-at t c = only_place _ _ c.if-f-eq0.false c.requires c.if-n-lt10.true

pub returns-then-n-lt10 : goal.returns-then-n-lt10
returns-then-n-lt10 t c = only_put _ _ c.if-f-eq0.false c.requires c.if-n-lt10.true

pub put_digits-k-requires : goal.put_digits-k-requires
put_digits-k-requires t c = (omega arith, leading_room _ _ c.if-f-eq0.false c.requires c.if-n-lt10.false)

pub bounds-out-k : goal.bounds-out-k
bounds-out-k t c = last_place _ _ c.if-f-eq0.false c.requires c.if-n-lt10.false c.put_digits-k.ensures

pub overflow_add-result-2 : goal.overflow_add-result-2
overflow_add-result-2 t c =
    omega (
      arith,
      last_place _ _ c.if-f-eq0.false c.requires c.if-n-lt10.false c.put_digits-k.ensures,
      same_length c.put_digits-k.ensures (leading_room _ _ c.if-f-eq0.false c.requires c.if-n-lt10.false),
    )

pub returns : goal.returns
returns t c = last_put _ _ c.if-f-eq0.false c.requires c.if-n-lt10.false c.put_digits-k.ensures
