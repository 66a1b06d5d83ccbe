-- A function with another value at one place.
use Rattle.std.specs.Prelude.{ℕ, if◌then◌else◌, ◌==◌}

-- the function with this value at n
abbrev pub changed : {X : Type 0} → (ℕ → X) → ℕ → X → ℕ → X
changed f n x i = if i == n then x else f i
