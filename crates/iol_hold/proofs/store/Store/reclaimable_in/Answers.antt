use Rattle.std.proofs.Common.{◌≡◌, ℕ, ◌+◌, ◌*◌, arith, sym, ap, ◌∙◌, length, [], ◌∷◌, ◌++◌, cond, length-append}
use Rattle.std.specs.List.{filter, range_with_len}
use Rattle.std.proofs.lemmas.List.{append-nil}
use Rattle.iol_arena.specs.Chunks.{chunk_pages}
use Rattle.iol_arena.proofs.Scan.{filter_more}
use Rattle.iol_hold.specs.Reclaimable.{is_reclaimable}
use Rattle.iol_hold.proofs.store.Store.reclaimable_in.Goals as goal
use Rattle.iol_hold.proofs.store.Store.reclaimable_in.Goals.{then-is_reclaimable, else-is_reclaimable}

pub loop-i-preserved : goal.loop-i-preserved
loop-i-preserved c =
    let f = is_reclaimable c.args.self.now c.args.spared.now in
    let a : ℕ = c.args.chunk * 16 in
    let i : ℕ = c.loop-i.i in
    let so_far = filter f (range_with_len a i) in
    let test : f (a + i) ≡ c.is_reclaimable.result = ap (λ n. f (n * 16 + i)) (sym c.number.ensures)
    ∙ sym c.is_reclaimable.ensures in
    let more = filter_more f a i ∙ ap (λ b. so_far ++ cond b ((a + i) ∷ []) []) test in
    elim c.if-is_reclaimable.branch [
      | then-is_reclaimable w ↦
          let e = more ∙ ap (λ b. so_far ++ cond b ((a + i) ∷ []) []) w.if-is_reclaimable.true in
          record {
            found =
                omega (arith, w.count-is, c.loop-i.invariant.found, ap length e, length-append so_far ((a + i) ∷ []));
            few = omega (arith, w.count-is, c.loop-i.invariant.few);
          }
      | else-is_reclaimable w ↦
          let e = more ∙ ap (λ b. so_far ++ cond b ((a + i) ∷ []) []) w.if-is_reclaimable.false ∙ append-nil so_far in
          record {
            found = omega (arith, w.count-is, c.loop-i.invariant.found, ap length e);
            few =
                omega (arith, w.count-is, c.loop-i.invariant.few);
          }
    ]

pub returns : goal.returns
unfolding chunk_pages
returns c =
    let f = is_reclaimable c.args.self.now c.args.spared.now in
    let done : c.loop-i.i ≡ 16 = omega arith in
    c.loop-i.invariant.found ∙ ap (λ n. length (filter f (range_with_len (c.args.chunk * 16) n))) done
    ∙ ap (λ l. length (filter f l)) (sym (append-nil (chunk_pages c.args.chunk)))
