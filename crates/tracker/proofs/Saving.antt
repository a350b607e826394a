-- Saving and reading by bytes: a listing gives the bytes that were saved, up to the need, and a text that was read is saved as it was.
use Prim.Native.Nat.{ℕ, ◌≤◌}
use mathlib.Core.Path.{◌≡◌, sym, ap, subst, ◌∙◌}
use mathlib.Core.List.{List}
use lib.ListN.{length, take, drop}
use lib.Seq.{take-append_seam}
use Rattle.machine.specs.State.{State}
use Rattle.machine.specs.Listing.{listing, read_listing}
use Rattle.machine.specs.Call.{Buffer, Save, Restore, On, restore_refusal}
use Rattle.machine.specs.Step.{Outcome, Saved, Number, written}
use Rattle.machine.proofs.Listings.{listing_read, read-listing}
use Rattle.machine.proofs.Restoring.{taken, read_state, saved, save_step}
use Rattle.store.specs.Image.{SoundStore, Bytes, need_of}
use Rattle.store.proofs.Stored.{store_front}
use Rattle.outcome.specs.Outcome.{Effect, Does}
use Rattle.outcome.specs.Steps.{Stepped}
use Rattle.outcome.proofs.Calls.{does-steps, does_read}

-- what saving leaves of a sound store: its listing in the buffer
save-steps : (b : List ℕ) (u : Buffer) (e : Effect) (w : SoundStore b) → Bytes b → Does (On (Save u)) b e → length (listing w.state) ≤ length u
    → Stepped b (saved (listing w.state) u w.state) e
save-steps b u e w p d h = subst (λ (o : Outcome). Stepped b o e) (save_step (length b) u w.state h) (does-steps b e (On (Save u)) w tt p d)

-- the text that stands in the buffer
text_back : (x u : List ℕ) → take (length x) (written x u) ≡ x
unfolding written
text_back x u = take-append_seam x (drop (length x) u)

-- what a listing read back leaves of a store of the bytes c, the state s having been saved from the bytes b
pub record Restored (b c : List ℕ) (s : State) (e : Effect) : Type 0 where
  pub reply : e.reply ≡ Number 1
  -- "the store bytes that were saved, up to the need"
  pub front : take (need_of s) e.store ≡ take (need_of s) b
  -- bytes past the need stay
  pub back : drop (need_of s) e.store ≡ drop (need_of s) c

-- a sound store is saved, and the text that saving left is read by a store of any bytes that has room
pub saved-restored : (b c : List ℕ) (u : Buffer) (e f : Effect) (w : SoundStore b) → Bytes b → Bytes c
    → Does (On (Save u)) b e → length (listing w.state) ≤ length u
    → Does (Restore (take (length (listing w.state)) e.buffer)) c f → need_of w.state ≤ length c → Restored b c w.state f
saved-restored b c u e f w p q d h r l =
    let s = w.state in
    let x : take (length (listing s)) e.buffer ≡ listing s = ap (take (length (listing s))) (save-steps b u e w p d h).buffer ∙ text_back (listing s) u in
    let g = listing_read s w.sound in
    let z : restore_refusal (length c) (read_listing (listing s)) ≡ 0 = taken (length c) (listing s) s g w.sound l in
    let t = does_read c f (listing s) s g (rw g at z) q (subst (λ (y : List ℕ). Does (Restore y) c f) x r) in
    record { reply = t.reply; front = t.front ∙ sym (store_front b w p); back = t.back }

-- a text is read, and saving with room gives that text
pub restored-saved : (b x : List ℕ) (u : Buffer) (e f : Effect) → Bytes b → Does (Restore x) b e → restore_refusal (length b) (read_listing x) ≡ 0
    → Does (On (Save u)) e.store f → length x ≤ length u → (f.reply ≡ Saved x) × (f.buffer ≡ written x u)
restored-saved b x u e f p d z r l =
    let v = read_state (length b) x z in
    let t = does_read b e x v.state v.is (rw v.is at z) p d in
    let g : listing t.sound.state ≡ x = ap (λ (s : State). listing s) t.state ∙ read-listing x v.state v.is in
    let o = save-steps e.store u f t.sound t.bytes r (rw g l) in
    (o.reply ∙ ap Saved g, o.buffer ∙ ap (λ (y : List ℕ). written y u) g)
