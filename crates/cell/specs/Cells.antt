-- 'Rules, over the m arrivals at a point, modulo 2^32.' (REFERENCE 1.4)
use Rattle.std.specs.Prelude.{ℕ, zero, suc, ◌+◌, ◌*◌, ◌%◌, ◌^◌, min}
use Rattle.job.specs.declared.record.Job.{Job}
use Rattle.job.specs.Record.{stream}

-- '0 passes the stream's own arrival on. 1 gives own + (arrival of a) × (arrival of b). 2 gives the smaller, unsigned, of own and the wrapped sum of the arrivals of a and b'
abbrev pub ruled : ℕ → ℕ → ℕ → ℕ → ℕ
ruled zero own a b = own
ruled (suc zero) own a b = (own + a * b) % 2 ^ 32
ruled (suc (suc more)) own a b = min own ((a + b) % 2 ^ 32)

-- the new value of stream s from the incoming values of all streams
abbrev pub work : Job → ℕ → (ℕ → ℕ) → ℕ
work j s incoming = ruled (stream j s).rule (incoming s) (incoming (stream j s).a) (incoming (stream j s).b)
