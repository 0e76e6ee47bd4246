use Rattle.std.proofs.Common.{arith, refl, ap, sym, subst, ◌∙◌, ◌∷◌, ◌++◌, List, get_or, length, map}
use Rattle.iol_hold.specs.Moves.{Shares}
use Rattle.iol_hold.specs.Places.{slice_places, places}
use Rattle.iol_hold.specs.Texts.{bufs_of}
use Rattle.iol_hold.specs.declared.slices.Slice.{Slice}
use Rattle.iol_hold.proofs.Moves.{shares_none}
use Rattle.iol_pipe.specs.Queue.{first_parts}
use Rattle.iol_pipe.proofs.Parts.{first_parts-whole, first_parts-cut}
use Rattle.iol_pipe.proofs.Prefixes.{split_first, cut_first, cut_rest}
use Rattle.iol_pipe.proofs.SharedHolds.{first_tally, first_held, shares_as, shares_split}
use Rattle.iol_pipe.proofs.take_first.Goals as goal

pub returns-then-first-most : goal.returns-then-first-most
returns-then-first-most c =
    let s = c.args.store.now in
    let items = c.in-Some.ensures.items in
    let first = c.in-Some.first in
    let rest = c.pop_front.new.self.items in
    record {
      given = ap places (sym items);
      cut = ap (λ xs. first_parts c.args.most (map slice_places xs)) items
          ∙ first_parts-whole first rest c.args.most c.if-first-most.true;
      pool = λ y. ap (λ xs. (get_or xs 0 y).hold.pool) (sym items);
      len = c.if-first-most.true;
      fewer = omega (arith, ap length items, first.some, c.if-first-most.true);
      shares = subst (λ (xs : List Slice). Shares s s (bufs_of xs) (bufs_of (first ∷ rest))) (sym items)
          (shares_as (shares_none s) (λ b. refl));
      whole = λ less b. omega (arith, first_tally c.args.queue.now.items rest first b items);
      few = omega (arith, ap length items);
      fewer_left = λ less. omega (arith, ap length items);
    }

pub share-requires-clause-live : goal.share-requires-clause-live
share-requires-clause-live c =
    first_held c.args.queue.now.items c.pop_front.new.self.items c.in-Some.first c.in-Some.ensures.items
    c.requires.shared.covered

pub returns : goal.returns
returns c =
    let items = c.in-Some.ensures.items in
    let first = c.in-Some.first in
    let part = c.cut-2.result in
    let rest = c.pop_front.new.self.items in
    let most = c.args.most in
    let less = c.if-first-most.false in
    let small = cut_first first first part most most refl (omega (arith, less)) c.cut-2.ensures.places in
    let after = cut_rest first c.share.result c.cut.result most c.share.ensures.places c.cut.ensures.places in
    record {
      given = ap (λ xs. slice_places part ++ places xs) c.push_front_reserved.ensures.items
          ∙ split_first first part c.cut.result most rest small after ∙ ap places (sym items);
      cut = ap (λ xs. first_parts most (map slice_places xs)) items
          ∙ first_parts-cut first part rest c.push_front_reserved.new.self.items most (omega (arith, less))
          c.requires.some small (omega (arith, c.cut-2.ensures.len));
      pool = λ y. ap (λ h. h.pool) c.cut-2.ensures.hold ∙ ap (λ xs. (get_or xs 0 y).hold.pool) (sym items);
      len = omega (arith, c.cut-2.ensures.len);
      fewer = omega (arith, ap length items, c.cut-2.ensures.len, c.requires.some);
      shares = shares_split first part c.cut.result c.args.queue.now.items c.push_front_reserved.new.self.items rest
          items c.push_front_reserved.ensures.items c.cut-2.ensures.hold (c.cut.ensures.hold ∙ c.share.ensures.hold)
          c.share.ensures.shares;
      whole = λ less b. absurd (omega (arith, less, c.cut-2.ensures.len));
      few = omega (arith, ap length items, ap length c.push_front_reserved.ensures.items);
      fewer_left = λ less. absurd (omega (arith, less, c.cut-2.ensures.len));
    }
