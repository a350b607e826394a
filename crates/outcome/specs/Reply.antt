-- What the answers of the public calls say, in document 01's numbers and values.
use Rattle.std.specs.Prelude.{ℕ, ◌*◌, take, drop, Result, Ok, Err}
use Rattle.machine.specs.Call.{Buffer, key_bytes}
use Rattle.machine.specs.Step.{Reply, Refused, Number, Keys, Left, Summed, Saved}
use Rattle.lent_lists.specs.Lists.{keys_in}
use Rattle.outcome.specs.declared.refusal.Refusal.{Refusal}
use Rattle.outcome.specs.declared.Figures.{Figures}
use Rattle.outcome.specs.declared.Departure.{Departure}
use Rattle.outcome.specs.Refusals.{number_of}

abbrev pub reply_of : Result ℕ Refusal → Reply
reply_of (Err r) = Refused (number_of r)
reply_of (Ok n) = Number n

abbrev pub figures_of : Result Figures Refusal → Reply
figures_of (Err r) = Refused (number_of r)
figures_of (Ok f) = Summed (record { held = f.held; free = f.free; preferred = f.free_preferred; permille = f.permille })

-- n keys stand in the answer buffer
abbrev pub keys_listed : ℕ → Buffer → Reply
keys_listed n u = Keys (keys_in n u)

abbrev pub listing_of : Result ℕ Refusal → Buffer → Reply
listing_of (Err r) u = Refused (number_of r)
listing_of (Ok n) u = keys_listed n u

-- those of its own stand first, the parents' behind them
abbrev pub left_listed : ℕ → ℕ → Buffer → Reply
left_listed own parents u = Left (keys_in own u) (keys_in parents (drop (key_bytes * own) u))

abbrev pub departure_of : Result Departure Refusal → Buffer → Reply
departure_of (Err r) u = Refused (number_of r)
departure_of (Ok d) u = left_listed d.own d.parents u

-- a text of n bytes stands in the answer buffer
abbrev pub text_listed : ℕ → Buffer → Reply
text_listed n u = Saved (take n u)

abbrev pub text_of : Result ℕ Refusal → Buffer → Reply
text_of (Err r) u = Refused (number_of r)
text_of (Ok n) u = text_listed n u
