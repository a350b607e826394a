-- What a change of one request does to the places: one comes, goes, is replaced, or none changes.
use Prim.Native.Nat.{ℕ}
use mathlib.Core.Path.{◌≡◌, refl, sym, ap, ◌∙◌}
use mathlib.Core.List.{List, [], ◌∷◌, ◌++◌}
use lib.ListN.{length, set}
use lib.Seq.{set_at}
use Rattle.ident.specs.Number.{Key}
use Rattle.regions.specs.Regions.{insert_at, remove_at}
use Rattle.places.specs.Places.{Place}
use Rattle.machine.specs.State.{Request, Table}
use Rattle.machine.specs.Table.{at, change}
use Rattle.machine.specs.Sound.{Ordered}
use Rattle.store.specs.Flat.{places_for, places_of}
use Rattle.store.proofs.Split.{places_below, places_above, places-at, places-change}
use Rattle.store.proofs.RowsAt.{insert_seam, remove_seam}

module _ (k : Key) (lo : ℕ) (t : Table) (o : Ordered lo t) (g : Request → Request) (h : (g (at k t)).candidates ≡ [] → places_for (g (at k t)) ≡ []) where
  -- the places with ps at the key
  abbrev with : List Place → List Place
  with ps = places_below k t ++ (ps ++ places_above k t)

  before : {ps : List Place} → places_for (at k t) ≡ ps → with ps ≡ places_of t
  before e = ap with (sym e) ∙ sym (places-at k lo t o)

  after : {ps : List Place} → places_for (g (at k t)) ≡ ps → places_of (change k g t) ≡ with ps
  after e = places-change k lo t o g h ∙ ap with e

  pub place_comes : (p : Place) → places_for (at k t) ≡ [] → places_for (g (at k t)) ≡ p ∷ [] → places_of (change k g t) ≡ insert_at (length (places_below k t)) p (places_of t)
  place_comes p a b = after b ∙ sym (insert_seam (places_below k t) p (places_above k t)) ∙ ap (insert_at (length (places_below k t)) p) (before a)

  pub place_goes : (q : Place) → places_for (at k t) ≡ q ∷ [] → places_for (g (at k t)) ≡ [] → places_of (change k g t) ≡ remove_at (length (places_below k t)) (places_of t)
  place_goes q a b = after b ∙ sym (remove_seam (places_below k t) q (places_above k t)) ∙ ap (remove_at (length (places_below k t))) (before a)

  pub place-replaced : (q p : Place) → places_for (at k t) ≡ q ∷ [] → places_for (g (at k t)) ≡ p ∷ [] → places_of (change k g t) ≡ set (places_of t) (length (places_below k t)) p
  place-replaced q p a b =
      after b ∙ sym (set_at (places_below k t) q (places_above k t) p (length (places_below k t)) refl) ∙ ap (λ (l : List Place). set l (length (places_below k t)) p) (before a)

  pub places-unchanged : places_for (g (at k t)) ≡ places_for (at k t) → places_of (change k g t) ≡ places_of t
  places-unchanged e = after e ∙ sym (places-at k lo t o)
