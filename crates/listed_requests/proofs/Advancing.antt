-- One request more of those that are gone through.
use Prim.Native.Nat.{ℕ, suc, ◌+◌, ◌<◌, ◌≤◌}
use mathlib.Core.Path.{◌≡◌, refl, sym, ap, ◌∙◌}
use mathlib.Core.Bool.{Bool, true, false, ◌&&◌}
use mathlib.Core.List.{List, [], ◌∷◌}
use native.Mathlib.Omega.{arith}
use lib.Dec.{ltb, leb}
use lib.ListN.{length}
use borrow.Author.Tests.{lt-ltb, le-leb, lt-leb}
use Rattle.std.specs.Prelude.{Option as Maybe, Some, None, is_some as is_there}
use Rattle.ident.specs.Number.{top, place}
use Rattle.machine.specs.Limits.{Limits, max_alternates}
use Rattle.machine.specs.State.{Candidate, Request, Table, with_candidates}
use Rattle.machine.specs.Table.{place_in}
use Rattle.machine.specs.Listing.{Rest, RequestListed, TableListed}
use Rattle.machine.proofs.Tests.{never}
use Rattle.listed_lines.specs.declared.parts.Package as parts-package
use Rattle.listed_lines.specs.declared.line.Request as line-request
use Rattle.listed_lines.specs.Given.{package_of, request_in}
use Rattle.listed_form.specs.Given.{key_in, Body, requests_only}
use Rattle.listed_form.proofs.Stepping.{body_end}
use Rattle.listed_requests.specs.Parts.{one_fits, local_fits, pass_fits}
use Rattle.listed_requests.specs.declared.each.Pass.{Pass}
use Rattle.listed_requests.specs.Given.{NextRequest, Judged, lowest_of, left_fits, place_for, Stepped, EachFits}
use Rattle.listed_requests.proofs.Passing.{local_is}

-- ---- the test of a request with those behind it

and-false : (x : Bool) → (x && false) ≡ false
and-false true = refl
and-false false = refl

module _ (m : Limits) (Q lo h p : ℕ) (r : Request) (t : Table) where
  abbrev order : Bool
  order = leb lo (place r.key) && ltb r.key.hash top

  abbrev announced : Bool
  announced = leb (h + length r.candidates) m.announcements

  abbrev placed : Bool
  placed = leb (p + place_in r.info r.«package») Q

  abbrev behind : Bool
  behind = pass_fits m Q (suc (place r.key)) (h + length r.candidates) (p + place_in r.info r.«package») t

  not-above : leb lo (place r.key) ≡ false → pass_fits m Q lo h p (r ∷ t) ≡ false
  unfolding pass_fits
  not-above e = rw e

  not_one : one_fits m.alternates r ≡ false → pass_fits m Q lo h p (r ∷ t) ≡ false
  unfolding pass_fits
  not_one e = rw (e, and-false order)

  not_announced : announced ≡ false → pass_fits m Q lo h p (r ∷ t) ≡ false
  unfolding pass_fits
  not_announced e = rw e (and-false (order && one_fits m.alternates r))

  not_placed : placed ≡ false → pass_fits m Q lo h p (r ∷ t) ≡ false
  unfolding pass_fits
  not_placed e = rw (e, and-false announced) (and-false (order && one_fits m.alternates r))

  all_right : leb lo (place r.key) ≡ true → ltb r.key.hash top ≡ true → one_fits m.alternates r ≡ true → announced ≡ true → placed ≡ true → pass_fits m Q lo h p (r ∷ t) ≡ behind
  unfolding pass_fits
  all_right a b c d e = rw (a, b, c, d, e)

none_left : (m : Limits) (Q lo h p : ℕ) → pass_fits m Q lo h p [] ≡ true
unfolding pass_fits
none_left m Q lo h p = refl

pub place-most : (i b : Bool) → place_for i b ≤ 1
place-most i true = omega arith
place-most true false = omega arith
place-most false false = omega arith

place_if : (i : Bool) (ws : List ℕ) (p : Maybe parts-package.Package) → place_in i (package_of ws p) ≡ place_for i (is_there p)
place_if i ws None = refl
place_if i ws (Some p) = refl

abbrev limits : ℕ → Limits
limits L = record { announcements = L; alternates = max_alternates }

-- the request is not in order, not lawful, or over a limit
stops : {b : List ℕ} {at L Q end : ℕ} {p : Pass} → ((t : Table) → Body b at (requests_only t) → TableListed t → left_fits L Q p t ≡ false) → Stepped b at L Q p None end
stops z = record { goes_on = tt; stops = λ e. z }

module _ {b : List ℕ} {at : ℕ} {ws ps : List ℕ} (L Q : ℕ) (p : Pass) where
  pub no-request : {to end : ℕ} → NextRequest b at ws ps None to → at < length b → Stepped b at L Q p None end
  no-request n h = stops (λ t y l. absurd (n.missing refl h t y))

  module _ {r : line-request.Request} {to : ℕ} (n : NextRequest b at ws ps (Some r) to) where
    abbrev asked : List Candidate → Request
    asked cs = with_candidates cs (request_in ws ps r)

    -- of the request in front
    stops_at : {end : ℕ} → ((cs : List Candidate) (t : Table) → Body b to (record { candidates = cs; table = t }) → TableListed (asked cs ∷ t)
        → pass_fits (limits L) Q (lowest_of p) p.held p.taken (asked cs ∷ t) ≡ false) → Stepped b at L Q p None end
    stops_at z = stops (λ t y l.
        let v = n.takes.is t y in
        let d = v.parts in
        ap (left_fits L Q p) d ∙ z v.candidates v.table v.body (rw d at l))

    pub stops-order : {x : Bool} {end : ℕ} → x ≡ leb (lowest_of p) (place (key_in r.key)) → x ≡ false → Stepped b at L Q p None end
    stops-order d g = stops_at (λ cs t y l. not-above (limits L) Q (lowest_of p) p.held p.taken (asked cs) t (sym d ∙ g))

    listed_one : (cs : List Candidate) (t : Table) → TableListed (asked cs ∷ t) → RequestListed (request_in ws ps r)
    listed_one cs t l = record { key = l.1.key; owner = l.1.owner; packed = l.1.packed; parents = l.1.parents }

    pub stops_one : {end : ℕ} → Judged b to ps r None end → Stepped b at L Q p None end
    stops_one j = stops_at (λ cs t y l. not_one (limits L) Q (lowest_of p) p.held p.taken (asked cs) t (j.unlawful refl ws (record { candidates = cs; table = t }) y (listed_one cs t l)))

    module _ {m end : ℕ} (j : Judged b to ps r (Some m) end) where
      fit_is : (cs : List Candidate) (t : Table) → Body b to (record { candidates = cs; table = t }) → TableListed (asked cs ∷ t) → one_fits max_alternates (asked cs) ≡ true
      fit_is cs t y l = j.lawful.is ws (record { candidates = cs; table = t }) y (listed_one cs t l)

      counted : (cs : List Candidate) (t : Table) → Body b to (record { candidates = cs; table = t }) → m ≡ length cs
      counted cs t y = j.lawful.count (record { candidates = cs; table = t }) y

      pub stops_held : {held : ℕ} → held ≡ p.held + m → L < held → Stepped b at L Q p None end
      stops_held d h = stops_at (λ cs t y l. not_announced (limits L) Q (lowest_of p) p.held p.taken (asked cs) t (lt-leb (p.held + length cs) L (omega (arith, counted cs t y))))

      place_is : (cs : List Candidate) → place_in (asked cs).info (asked cs).«package» ≡ place_for r.info (is_there r.packed)
      place_is cs = place_if r.info ws r.packed

      module _ {taken k : ℕ} (more : k ≡ place_for r.info (is_there r.packed)) (s : taken ≡ p.taken + k) where
        pub stops-taken : Q < taken → Stepped b at L Q p None end
        stops-taken h = stops_at (λ cs t y l.
            not_placed (limits L) Q (lowest_of p) p.held p.taken (asked cs) t (lt-leb (p.taken + place_in (asked cs).info (asked cs).«package») Q (omega (arith, place_is cs))))

        pub goes_on_lem : {held : ℕ} {x : Bool} → x ≡ leb (lowest_of p) (place (key_in r.key)) → x ≡ true → held ≡ p.held + m → held ≤ L → taken ≤ Q
            → Stepped b at L Q p (Some (record { last = Some r.key; held = held; taken = taken })) end
        goes_on_lem {held} {x} d o a u v = record {
          goes_on = record {
            on = omega (arith, n.takes.on, j.on);
            held = u;
            taken = v;
            is = λ t y l.
                let w = n.takes.is t y in
                let z = w.parts in
                let i = rw z at l in
                record {
                  table = w.table;
                  body = j.lawful.body (record { candidates = w.candidates; table = w.table }) w.body;
                  listed = i.3;
                  same = ap (left_fits L Q p) z ∙ same w.candidates w.table w.body i;
                };
          };
          stops = λ e. never (sym e);
        }
          where
            same : (cs : List Candidate) (t : Table) → Body b to (record { candidates = cs; table = t }) → TableListed (asked cs ∷ t)
                → pass_fits (limits L) Q (lowest_of p) p.held p.taken (asked cs ∷ t) ≡ pass_fits (limits L) Q (suc (place (key_in r.key))) held taken t
            same cs t y l =
                let q = asked cs in
                let h : p.held + length cs ≡ held = omega (arith, counted cs t y) in
                let k : p.taken + place_in q.info q.«package» ≡ taken = omega (arith, place_is cs) in
                all_right (limits L) Q (lowest_of p) p.held p.taken q t (sym d ∙ o) (lt-ltb q.key.hash top l.1.key) (fit_is cs t y l)
                (le-leb (p.held + length cs) L (omega arith)) (le-leb (p.taken + place_in q.info q.«package») Q (omega arith))
                ∙ ap (λ (i : ℕ). pass_fits (limits L) Q (suc (place q.key)) i (p.taken + place_in q.info q.«package») t) h
                ∙ ap (λ (i : ℕ). pass_fits (limits L) Q (suc (place q.key)) held i t) k

-- ---- all of them

-- what is left of the requests comes to the same as all of them
pub record Rested (b : List ℕ) (L Q : ℕ) (t : Table) (p : Pass) (at : ℕ) : Type 0 where
  pub table : Table
  pub body : Body b at (requests_only table)
  pub listed : TableListed table
  pub same : local_fits (record { announcements = L; alternates = max_alternates }) Q t ≡ left_fits L Q p table

pub record Underway (b : List ℕ) (from L Q : ℕ) (p : Pass) (at : ℕ) : Type 0 where
  pub is : (t : Table) → Body b from (requests_only t) → TableListed t → Rested b L Q t p at

pub pass-begin : (b : List ℕ) (from L Q : ℕ) → Underway b from L Q (record { last = None; held = 0; taken = 0 }) from
pass-begin b from L Q = record { is = λ t y l. record { table = t; body = y; listed = l; same = local_is (limits L) Q t } }

module _ {b : List ℕ} {from L Q : ℕ} {p : Pass} {at : ℕ} (u : Underway b from L Q p at) where
  pub pass_on : {s : Pass} {end : ℕ} → Stepped b at L Q p (Some s) end → Underway b from L Q s end
  pass_on z = record {
    is = λ t y l.
        let a = u.is t y l in
        let w = z.goes_on.is a.table a.body a.listed in
        record { table = w.table; body = w.body; listed = w.listed; same = a.same ∙ w.same };
  }

  pub pass_stop : {end : ℕ} → Stepped b at L Q p None end → EachFits b from L Q false
  pass_stop z = record { is = λ t y l. let a = u.is t y l in sym (a.same ∙ z.stops refl a.table a.body a.listed) }

  pub pass_end : length b ≤ at → EachFits b from L Q true
  pass_end h = record {
    is = λ t y l.
        let a = u.is t y l in
        let e : a.table ≡ [] = ap (λ (x : Rest). x.table) (body_end a.body h) in
        sym (a.same ∙ ap (left_fits L Q p) e ∙ nothing);
  }
    where
      nothing : left_fits L Q p [] ≡ true
      nothing = none_left (record { announcements = L; alternates = max_alternates }) Q (lowest_of p) p.held p.taken
