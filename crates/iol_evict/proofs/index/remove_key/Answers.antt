use Rattle.std.proofs.Common.{◌≡◌, ◌+◌, subst, arith, List, ℕ, Option, OnSome}
use Rattle.std.specs.List.{remove}
use Rattle.std.specs.VecDeque.{deque_len}
use Rattle.iol_evict.proofs.Places.{place-within, takes}
use Rattle.iol_evict.proofs.index.remove_key.Goals as goal

pub returns : goal.returns
returns c =
    let xs : List ℕ = c.args.keys.now.items in
    let place = c.position-place.result in
    let left = c.remove-taken.new.self in
    let within = place-within _ _ _ _ _ c.requires.index.rising c.requires.there c.position-place.ensures in
    let taken = c.remove-taken.ensures.succeeds 0 (omega (arith, within, c.args.keys.now.ok.0)) in
    let items : left.items ≡ remove xs place =
    subst (λ (o : Option ℕ). OnSome o (left.items ≡ remove xs place)) taken c.remove-taken.ensures.items in
    record {
      takes = takes _ _ _ _ _ _ _ c.requires.index.rising c.requires.there c.position-place.ensures c.index-key.ensures
          items;
      len = subst (λ (o : Option ℕ). OnSome o (deque_len left + 1 ≡ deque_len c.args.keys.now)) taken
          c.remove-taken.ensures.len;
      capacity = c.remove-taken.ensures.capacity;
    }
