use Rattle.std.proofs.Common.{true, false, ℕ, ◌≡◌, ◌<◌, ◌∙◌, refl, sym, ap, subst, arith, rules, List}
use Rattle.std.proofs.lemmas.Bool.Decides.{nat_tests}
use Rattle.iol_hold.specs.Places.{byte_len}
use Rattle.iol_evict.specs.Order.{Ranking, entered, entry_at}
use Rattle.iol_extent.specs.Extents.{Extent, end_of, extent_of, put_in}
use Rattle.iol_cache.specs.Marks.{Marks}
use Rattle.iol_cache.specs.Replacement.{Reindexes, remembered}
use Rattle.iol_cache.proofs.Evictions.Orders.{remembered_clean, remembered_dirty, remembered_none}
use Rattle.iol_cache.proofs.RangeWrites.Replacement.{absent_gap, clean_comes, dirty_comes}
use Rattle.iol_cache.proofs.write.replace.put_edge.Goals as goal

-- the order after the edge, with the extent as the contract has it
edge_is : (r t : Ranking) (f : ℕ) (x e : Extent) → x ≡ e → t ≡ remembered r f x → t ≡ remembered r f e
edge_is r t f x e same is = is ∙ ap (remembered r f) same

pub returns-then-is_empty : goal.returns-then-is_empty
returns-then-is_empty c =
    let x = extent_of c.edge.inside.at c.edge.inside.agg c.edge.inside.dirty in
    let none : byte_len c.edge.inside.agg ≡ 0 = grind (arith, nat_tests, c.if-is_empty.ensures, c.is_empty.ensures) in
    record {
      comes = search (rules);
      remembers =
          record {
            follows = search (rules);
            order =
                edge_is c.args.order.now c.args.order.now c.args.file x c.args.edge c.edge.view_is
                (sym (remembered_none c.args.order.now c.args.file x none));
            room = omega arith;
          };
    }

pub returns-then-dirty : goal.returns-then-dirty
returns-then-dirty c =
    let es = c.args.extents.now.extents in
    let x = extent_of c.edge.inside.at c.edge.inside.agg c.edge.inside.dirty in
    let some : 0 < byte_len c.edge.inside.agg = grind (arith, nat_tests, c.if-is_empty.ensures, c.is_empty.ensures) in
    record {
      comes = search (rules);
      remembers = record {
        follows =
            subst (λ (xs : List Extent). Reindexes c.args.file es xs c.args.order.now c.keep.new.self c.args.marks.now
            c.args.marks.now) (sym c.put.ensures.extents)
            (subst
            (λ (r : Ranking). Reindexes c.args.file es
            (put_in es (extent_of c.edge.inside.at c.edge.inside.agg true)) c.args.order.now r c.args.marks.now
            c.args.marks.now) (sym c.keep.ensures)
            (dirty_comes c.args.file es (extent_of c.edge.inside.at c.edge.inside.agg true) c.args.order.now
            c.args.marks.now refl));
        order = edge_is c.args.order.now c.keep.new.self c.args.file x c.args.edge c.edge.view_is (c.keep.ensures
            ∙ sym (remembered_dirty c.args.order.now c.args.file x c.if-dirty.true some));
        room = omega (arith, ap (λ (r : Ranking). r.room) c.keep.ensures);
      };
    }

pub enter-requires-clause-absent : goal.enter-requires-clause-absent
enter-requires-clause-absent c =
    let es = c.args.extents.now.extents in
    let e = c.args.edge in
    let here : byte_len c.edge.inside.agg ≡ byte_len e.parts = ap (λ (x : Extent). byte_len x.parts) c.edge.view_is in
    let some : 0 < byte_len c.edge.inside.agg = grind (arith, nat_tests, c.if-is_empty.ensures, c.is_empty.ensures) in
    let gap = c.requires.gap (omega (arith, here, some)) in
    ap (λ n. entry_at c.args.order.now.entries c.args.file n) (ap (λ (x : Extent). x.at) c.edge.view_is)
    ∙ absent_gap c.args.file es e.at (end_of e) c.args.order.now c.requires.indexed.apart gap
    (omega (arith, here, some)) c.requires.indexed.ranked

pub returns : goal.returns
returns c =
    let es = c.args.extents.now.extents in
    let x : Extent = extent_of c.edge.inside.at c.edge.inside.agg false in
    let y : Extent = extent_of c.edge.inside.at c.edge.inside.agg c.edge.inside.dirty in
    let some : 0 < byte_len c.edge.inside.agg = grind (arith, nat_tests, c.if-is_empty.ensures, c.is_empty.ensures) in
    let marks = subst (Marks c.args.marks.now c.set_clean.new.self) c.slices.ensures c.set_clean.ensures in
    record {
      comes = search (rules);
      remembers = record {
        follows =
            subst (λ (xs : List Extent). Reindexes c.args.file es xs c.args.order.now c.enter.new.self c.args.marks.now
            c.set_clean.new.self) (sym c.put-2.ensures.extents)
            (subst (λ (r : Ranking). Reindexes c.args.file es (put_in es x) c.args.order.now r c.args.marks.now
            c.set_clean.new.self) (sym c.enter.ensures)
            (clean_comes c.args.file es x c.len.result c.args.order.now c.args.marks.now c.set_clean.new.self refl
            marks));
        order = edge_is c.args.order.now c.enter.new.self c.args.file y c.args.edge c.edge.view_is
            (c.enter.ensures ∙ ap (λ n. entered c.args.order.now c.args.file c.edge.inside.at n 1) c.len.ensures
            ∙ sym (remembered_clean c.args.order.now c.args.file y c.if-dirty.false some));
        room = omega (arith, ap (λ (r : Ranking). r.room) c.enter.ensures);
      };
    }
