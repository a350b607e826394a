-- A connection's figures, read from its entry.
use Prim.Native.Nat.{ℕ, ◌<◌}
use mathlib.Core.Path.{◌≡◌, sym, ap, ◌∙◌}
use lib.ListN.{length, get_or}
use Rattle.regions.specs.declared.Conn.{Conn}
use Rattle.regions.specs.Order.{Bound}
use Rattle.machine.specs.State.{State}
use Rattle.machine.specs.Table.{held_by, owned_by}
use Rattle.machine.specs.Sound.{Sound}
use Rattle.store.specs.Flat.{rows_of, tally}
use Rattle.store.specs.Shown.{conn_names}
use Rattle.store.proofs.Certify.{value_of, held_value, owned_value}
use Rattle.store.proofs.Counts.{by_rows, own_by_rows, distinct_in}
use Rattle.store.proofs.Entries.{value_found, value-missing}
use Rattle.store.proofs.Tally.{tally_tallied}
use Rattle.requests.specs.Changes.{FiguresOf}

module _ (st : State) (s : Sound st) (n : ℕ) where
  held_is : value_of (λ c. c.held) n (tally (rows_of st.table)) ≡ held_by n st.table
  held_is = held_value (rows_of st.table) n ∙ by_rows st.table n

  owned_is : value_of (λ c. c.owned) n (tally (rows_of st.table)) ≡ owned_by n st.table
  owned_is = owned_value (rows_of st.table) n ∙ own_by_rows st.table s.bounded.lawful (distinct_in st.table s.bounded.once) n

  module _ {i : ℕ} (b : Bound (conn_names (tally (rows_of st.table))) n i) (d : Conn) where
    pub figures_found : {c : Conn} → i < length (tally (rows_of st.table)) → (get_or (tally (rows_of st.table)) i d).conn ≡ n → c ≡ get_or (tally (rows_of st.table)) i d
        → FiguresOf st.table n c.held c.owned
    figures_found l e q = record {
      held = ap (λ (a : Conn). a.held) q ∙ sym (value_found (tally (rows_of st.table)) b d l e (λ c. c.held)) ∙ held_is;
      owned = ap (λ (a : Conn). a.owned) q ∙ sym (value_found (tally (rows_of st.table)) b d l e (λ c. c.owned)) ∙ owned_is;
    }

    pub figures-missing : (i < length (tally (rows_of st.table)) → (get_or (tally (rows_of st.table)) i d).conn ≡ n → ⊥) → FiguresOf st.table n 0 0
    figures-missing m = record {
      held = sym (value-missing (tally (rows_of st.table)) b d m (tally_tallied (rows_of st.table)) (λ c. c.held)) ∙ held_is;
      owned = sym (value-missing (tally (rows_of st.table)) b d m (tally_tallied (rows_of st.table)) (λ c. c.owned)) ∙ owned_is;
    }
