use native.Mathlib.Omega.{arith}
use mathlib.Core.Path.{sym}
use Rattle.ident.specs.Words.{hash_num}
use Rattle.places.specs.Places.{blank}
use Rattle.machine.proofs.Tests.{never}
use Rattle.store.proofs.Frame.{sizes}
use Rattle.requests.proofs.Keeping.{kept_shown}
use Rattle.package_stages.proofs.Seeking.{sought_at, missing, spot_within}
use Rattle.package_stages.proofs.seek.Goals as goal

pub seek_place-at-requires : goal.seek_place-at-requires
seek_place-at-requires c = kept_shown c.requires

pub held_places-requires : goal.held_places-requires
held_places-requires c = let z = kept_shown c.requires in omega (arith, z.sizes.long)

pub place_at-p-requires : goal.place_at-p-requires
place_at-p-requires c = (kept_shown c.requires, omega (arith, c.held_places.ensures.word, c.if-at-held_places.true))

pub returns-then-not-quad_less : goal.returns-then-not-quad_less
returns-then-not-quad_less c =
    let l = spot_within c.requires c.from-q.ensures c.seek_place-at.ensures (omega (arith, c.held_places.ensures.word, c.if-at-held_places.true)) c.place_at-p.ensures c.quad_less.ensures in
    rw c.if-not-quad_less.true at l

pub returns-else-not-quad_less : goal.returns-else-not-quad_less
returns-else-not-quad_less c =
    let l = spot_within c.requires c.from-q.ensures c.seek_place-at.ensures (omega (arith, c.held_places.ensures.word, c.if-at-held_places.true)) c.place_at-p.ensures c.quad_less.ensures in
    rw c.if-not-quad_less.false at l

pub returns-else-at-held_places : goal.returns-else-at-held_places
returns-else-at-held_places c = record {
  small = c.from-q.ensures.small;
  most = c.seek_place-at.ensures.most;
  inside = λ e. never e;
  is = λ st s w.
      let h = hash_num c.args.h in
      let z = sizes w in
      let bd = sought_at st s h c.from-q.ensures.words_are w c.seek_place-at.ensures in
      record {
        bound = bd;
        held_is = sym (missing st s h c.from-q.ensures.small bd (blank 0 0) (λ l y. omega (arith, c.held_places.ensures.word, c.if-at-held_places.false)));
      };
}
