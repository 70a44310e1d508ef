-- 'Meaning of the verdict': the products of a job, and for a stream Sd, g, e and w. (REFERENCE 3.1, 3.2)
use Rattle.std.specs.Prelude.{◌≡◌, List, [], ◌∷◌, map, ℕ, zero, suc, ◌+◌, ℤ, pos, nat_abs}
use Rattle.std.specs.Int.Signed.{quot_z}
use Rattle.space.specs.Numbers.{up}
use Rattle.space.specs.Vectors.{entries, dot_of}
use Rattle.space.specs.Divisors.{gcd_of}
use Rattle.job.specs.declared.record.Job.{Job}
use Rattle.job.specs.Record.{along}

-- 'Write Hx, Sx for the products': Sx has an entry for each place row, 0 for the second where k = 1
abbrev pub H : Job → List ℤ → ℤ
H j x = dot_of (entries j.time) x

abbrev pub S : Job → List ℤ → List ℤ
S j x = dot_of (entries j.row0) x ∷ dot_of (entries j.row1) x ∷ []

-- 'Sd = 0 makes it stationary'
abbrev pub Stationary : Job → ℕ → Type 0
Stationary j s = S j (along j s) ≡ pos 0 ∷ pos 0 ∷ []

-- 'g is the gcd of the entries of Sd', 0 where the stream is stationary
abbrev pub g : Job → ℕ → ℕ
g j s = gcd_of (nat_abs (dot_of (entries j.row0) (along j s))) (nat_abs (dot_of (entries j.row1) (along j s)))

-- 'stationary, with delay w = Hd. Otherwise e = Sd/g one hop and w = Hd/g the ticks per hop'
abbrev pub or_one : ℕ → ℕ
or_one zero = 1
or_one (suc n) = suc n

abbrev pub hops : Job → ℕ → ℕ
hops j s = or_one (g j s)

abbrev pub hop : Job → ℕ → List ℤ
hop j s = map (λ (z : ℤ). quot_z z (pos (hops j s))) (S j (along j s))

abbrev pub delay : Job → ℕ → ℤ
delay j s = quot_z (H j (along j s)) (pos (hops j s))

-- w as a count, and the sum of the w of the first m streams
abbrev pub w : Job → ℕ → ℕ
w j s = up (delay j s)

abbrev pub delays : Job → ℕ → ℕ
delays j zero = 0
delays j (suc m) = delays j m + w j m
