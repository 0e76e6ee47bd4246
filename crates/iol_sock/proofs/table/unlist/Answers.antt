use Rattle.std.proofs.Common.{◌≡◌, ◌+◌, ◌<◌, ◌∙◌, ℕ, List, Option, Ok, Err, OnSome, ap, subst, arith, rules}
use Rattle.std.specs.List.{remove}
use Rattle.std.specs.VecDeque.{deque_len}
use Rattle.std.proofs.lemmas.List.Sorted.{answers_always}
use Rattle.iol_desc.specs.Tables.{place_in}
use Rattle.iol_desc.proofs.RisingNumbers.{searched_any}
use Rattle.iol_sock.proofs.WaitingList.{remove-place}
use Rattle.iol_sock.proofs.table.unlist.Goals as goal

pub returns-in-Ok : goal.returns-in-Ok
returns-in-Ok c =
    let left = c.remove-taken.new.self in
    let xs : List (ℕ × ℕ) = c.args.waiting.now.items in
    let facts = c.in-Ok.ensures in
    let at : c.in-Ok.at ≡ place_in xs c.args.number =
    searched_any xs c.args.number c.requires.rising (Ok c.in-Ok.at)
    (omega (arith, facts.bound, c.args.waiting.now.ok.0))
    (facts.position (λ e. e.0) (answers_always _ _ _ (λ f a r h called. search rules))) in
    let within : c.in-Ok.at < deque_len c.args.waiting.now =
    omega (arith, at, (remove-place xs c.args.number c.requires.there).0, c.args.waiting.now.ok.0) in
    let taken = c.remove-taken.ensures.succeeds (0, 0) within in
    let items : left.items ≡ remove xs c.in-Ok.at =
    subst (λ (o : Option (ℕ × ℕ)). OnSome o (left.items ≡ remove xs c.in-Ok.at)) taken
    c.remove-taken.ensures.items in
    let len = subst (λ (o : Option (ℕ × ℕ)). OnSome o (deque_len left + 1 ≡ deque_len c.args.waiting.now)) taken
    c.remove-taken.ensures.len in
    record {
      items = items ∙ ap (λ (i : ℕ). remove xs i) at ∙ (remove-place xs c.args.number c.requires.there).1;
      room = omega (arith, len, c.remove-taken.ensures.capacity);
    }

pub returns-in_default : goal.returns-in_default
returns-in_default c =
    let xs : List (ℕ × ℕ) = c.args.waiting.now.items in
    let facts = c.in_default.ensures in
    let none =
    searched_any xs c.args.number c.requires.rising (Err c.in_default.field-0)
    (omega (arith, facts.bound, c.args.waiting.now.ok.0))
    (facts.position (λ e. e.0) (answers_always _ _ _ (λ f a r h called. search rules))) in
    absurd (omega (arith, none, (remove-place xs c.args.number c.requires.there).0))
