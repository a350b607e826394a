-- The lists of a line, as their calls take them.
use Prim.Native.Nat.{ℕ}
use mathlib.Core.Path.{◌≡◌, subst}
use mathlib.Core.List.{List}
use denote.Ref.{Bor}
use Rattle.std.specs.Prelude.{Option, Some}
use Rattle.reading.specs.Given.{HashesAs, HashesGiven}
use Rattle.inventory.specs.declared.offers.Offers.{Offers}
use Rattle.inventory.specs.Given.{ItemsAs, ItemsGiven, OffersHeld, OffersAs, OffersGiven}

module _ {l : List ℕ} {e : ℕ} {r : Option (Bor (List ℕ))} (p : HashesGiven l e r) where
  pub hashes_held : {b : Bor (List ℕ)} → r ≡ Some b → HashesAs l e (Some b)
  hashes_held g = subst (HashesAs l e) g p.is

module _ {l : List ℕ} {e : ℕ} {r : Option Offers} (p : OffersGiven l e r) where
  pub offers_held : {o : Offers} → r ≡ Some o → OffersHeld l e o
  offers_held g = subst (OffersAs l e) g p.is

module _ {l : List ℕ} {e : ℕ} {r : Option (Bor (List ℕ))} (p : ItemsGiven l e r) where
  pub items_held : {b : Bor (List ℕ)} → r ≡ Some b → ItemsAs l e (Some b)
  items_held g = subst (ItemsAs l e) g p.is
