-- What handing an answer out does.
use Rattle.std.specs.Prelude.{ℕ, ◌≡◌, Result, Ok, Err}

-- An answer a was handed out: carried out, `write`, which f is before and f' after, was called with what it tells, and the status is 0. Refused, `write` was not called, and the
-- status is the number that is given for the refusal.
abbrev pub Handed : {T E W : Type 0} → (W → T → Unit {0} → W → Type 0) → (E → ℕ → Type 0) → Result T E → W → W → ℕ → Type 0
Handed step numbered (Ok x) f f' status = (status ≡ 0) × step f x tt f'
Handed step numbered (Err e) f f' status = numbered e status × (f' ≡ f)

-- The status of an answer: 0 if it was carried out, and else the number that is given for the refusal.
abbrev pub StatusAs : {T E : Type 0} → (E → ℕ → Type 0) → Result T E → ℕ → Type 0
StatusAs numbered (Ok x) status = status ≡ 0
StatusAs numbered (Err e) status = numbered e status

pub record StatusOf {T E : Type 0} (numbered : E → ℕ → Type 0) (a : Result T E) (status : ℕ) : Type 0 where
  pub told : StatusAs numbered a status

-- the number f of what an answer tells; refused, what stood there stays
abbrev pub handed : {T E : Type 0} → (T → ℕ) → Result T E → ℕ → ℕ
handed f (Err e) was = was
handed f (Ok x) was = f x

-- The same where `write` stores the number told: `was` stood there, and `is` stands there now.
abbrev pub HandedAs : {E : Type 0} → (E → ℕ → Type 0) → Result ℕ E → ℕ → ℕ → ℕ → Type 0
HandedAs numbered (Ok n) was is status = (status ≡ 0) × (is ≡ n)
HandedAs numbered (Err e) was is status = numbered e status × (is ≡ was)

pub record HandedOut {E : Type 0} (numbered : E → ℕ → Type 0) (a : Result ℕ E) (was is status : ℕ) : Type 0 where
  pub told : HandedAs numbered a was is status
