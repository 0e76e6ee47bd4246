use Rattle.std.proofs.Common.{◌≡◌, List, ◌∷◌, [], Option, Some, subst, map}
use Rattle.std.specs.Option.{MatchOption}
use Rattle.iol_hold.specs.StoreState.{Stored, Buffer}
use Rattle.iol_hold.specs.Moves.{Covers}
use Rattle.iol_hold.proofs.Moves.{covers_first, covers_less}
use Rattle.test_iol_store.proofs.tests.holds.release_two.Goals as goal

taken : (s : Stored) (o : Option Buffer) (holds rest : List Buffer) (h : Buffer) → Covers s (map (λ x. x.buf) holds)
    → MatchOption o ((holds ≡ []) × (rest ≡ [])) (λ x. holds ≡ x ∷ rest) → o ≡ Some h
    → Covers s (h.buf ∷ map (λ x. x.buf) rest)
taken s o holds rest h covers first is =
    let e = subst (λ (x : Option Buffer). MatchOption x ((holds ≡ []) × (rest ≡ [])) (λ y. holds ≡ y ∷ rest)) is
    first in
    subst (λ (xs : List Buffer). Covers s (map (λ x. x.buf) xs)) e covers

pub release-requires : goal.release-requires
release-requires g c =
    covers_first _ _ (taken c.args.store.now c.take_first.result c.args.holds c.take_first.new.self
    c.expect-first.result c.requires c.take_first.ensures c.expect-first.ensures)

pub release-requires-2 : goal.release-requires-2
release-requires-2 g c =
    let first = taken c.args.store.now c.take_first.result c.args.holds c.take_first.new.self c.expect-first.result
    c.requires c.take_first.ensures c.expect-first.ensures in
    let rest = covers_less _ _ first c.release.ensures.moves.counts in
    covers_first _ _ (taken c.release.new.self c.take_first-2.result c.take_first.new.self c.take_first-2.new.self
    c.expect-second.result rest c.take_first-2.ensures c.expect-second.ensures)
