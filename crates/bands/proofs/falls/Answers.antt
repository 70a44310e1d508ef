-- The first entry of the hop that is not 0 decides.
use mathlib.Core.Path.{◌≡◌, ap}
use mathlib.Core.Logic.{inl, inr}
use lib.IntN.{ℤ, pos}
use mir.Syntax.{w64}
use mir.Val.{of_z}
use Rattle.space.specs.Numbers.{up}
use Rattle.space.proofs.Parts.{int, down}
use Rattle.space.proofs.Machine.{arg, fit, tests, zero_bits}
use Rattle.bands.proofs.BandLaws.{goes_down, goes_up}
use Rattle.bands.proofs.falls.Goals as goal

-- a number of equal parts is 0
zero : (x : ℤ) → up x ≡ down x → x ≡ pos 0
zero x e = omega int

pub returns-then-b-ne0 : goal.returns-then-b-ne0
returns-then-b-ne0 c =
    let b = c.args.b in
    let f = fit (arg c.requires.rows tt) in
    let ne : up b.hop0 ≡ down b.hop0 → ⊥ = λ e. c.if-b-ne0.true (ap (of_z w64) (zero b.hop0 e)) in
    record { down = λ e s t x y lx g. goes_down b s t x y lx g (inl (omega tests)); up = λ e s t x y lx g. goes_up b s t x y lx g (inl (omega tests)) }

pub returns : goal.returns
returns c =
    let b = c.args.b in
    let f = fit (arg c.requires.columns tt) in
    let z = zero_bits (fit (arg c.requires.rows tt)) c.if-b-ne0.false in
    record { down = λ e s t x y lx g. goes_down b s t x y lx g (inr (z, omega tests)); up = λ e s t x y lx g. goes_up b s t x y lx g (inr (z, omega tests)) }
