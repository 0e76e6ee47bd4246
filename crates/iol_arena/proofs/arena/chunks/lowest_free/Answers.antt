use Rattle.std.proofs.Common.{◌≡◌, ℕ, ◌+◌, ◌<◌, arith, sym, ap, ◌∙◌, length, get_or, true, false, take, not, subst}
use Rattle.std.proofs.Common.{List, [], ◌∷◌, ◌++◌, cond, Bool}
use Rattle.std.specs.List.{All, filter, range_with_len}
use Rattle.std.proofs.lemmas.List.{get_or_default, append-nil}
use Rattle.std.proofs.lemmas.List.Elements.{All-append}
use Rattle.iol_arena.specs.Chunks.{is_untaken}
use Rattle.iol_arena.proofs.Adds.{all_one}
use Rattle.iol_arena.proofs.Scan.{filter_more, take_full, take_room}
use Rattle.iol_arena.proofs.arena.chunks.lowest_free.Goals as goal
use Rattle.iol_arena.proofs.arena.chunks.lowest_free.Goals.{then-not-is_taken+then-len-count+in_ok-push}
use Rattle.iol_arena.proofs.arena.chunks.lowest_free.Goals.{else-not-is_taken}
use Rattle.iol_arena.proofs.arena.chunks.lowest_free.Goals.{else-not-is_taken-via-then-not-is_taken+else-len-count}
use Rattle.iol_arena.proofs.arena.chunks.lowest_free.Goals.{else-not-is_taken-via-else-not-is_taken}

pub push-requires : goal.push-requires
push-requires c = subst (λ i. All (λ k. k < i) c.loop-i.set) (sym c.new.ensures) c.loop-i.invariant.below

-- the chunks so far, and the next one
found : (taken : List Bool) (i : ℕ) (b : Bool) → i < length taken → get_or taken i false ≡ b
    → filter (is_untaken taken) (range_with_len 0 (i + 1)) ≡ filter (is_untaken taken) (range_with_len 0 i)
    ++ cond (not b) (i ∷ []) []
found taken i b h read =
    let at : 0 + i ≡ i = omega arith in
    let e : get_or taken i true ≡ b = get_or_default taken i true false h ∙ read in
    filter_more (is_untaken taken) 0 i
    ∙ ap (λ k. filter (is_untaken taken) (range_with_len 0 i) ++ cond (is_untaken taken k) (k ∷ []) []) at
    ∙ ap (λ v. filter (is_untaken taken) (range_with_len 0 i) ++ cond (not v) (i ∷ []) []) e

pub loop-i-preserved : goal.loop-i-preserved
loop-i-preserved c =
    let taken = c.args.taken.now in
    let i : ℕ = c.loop-i.i in
    let xs = filter (is_untaken taken) (range_with_len 0 i) in
    let n : ℕ = c.args.count in
    let more : All (λ k. k < i + 1) c.loop-i.set = λ k d h. omega (arith, c.loop-i.invariant.below k d h) in
    elim c.if-not-is_taken.branch [
      | then-not-is_taken+then-len-count+in_ok-push w ↦
          let is : c.if-not-is_taken.set ≡ c.loop-i.set ++ i ∷ [] = w.set-is ∙ w.in_ok-push.ensures.ok
          ∙ ap (λ k. c.loop-i.set ++ k ∷ []) w.new.ensures in
          record {
            found = is ∙ ap (λ l. l ++ i ∷ []) c.loop-i.invariant.found
                ∙ sym
                (take_room n xs i
                (omega (arith, w.len.ensures, w.if-len-count.true, ap length c.loop-i.invariant.found)))
                ∙ ap (λ l. take n l) (sym (found taken i false c.loop-i-test.true w.if-not-is_taken.true));
            below =
                subst (λ l. All (λ k. k < i + 1) l) (sym is)
                (All-append (λ k. k < i + 1) c.loop-i.set (i ∷ []) more (all_one (λ k. k < i + 1) i (omega arith)));
          }
      | else-not-is_taken w ↦ elim w.else-not-is_taken.branch [
        | else-not-is_taken-via-then-not-is_taken+else-len-count v ↦ record {
          found = w.set-is ∙ c.loop-i.invariant.found
              ∙ sym
              (take_full n xs (i ∷ [])
              (omega (arith, v.len.ensures, v.if-len-count.false, ap length c.loop-i.invariant.found)))
              ∙ ap (λ l. take n l) (sym (found taken i false c.loop-i-test.true v.if-not-is_taken.true));
          below = subst (λ l. All (λ k. k < i + 1) l) (sym w.set-is) more;
        }
        | else-not-is_taken-via-else-not-is_taken v ↦ record {
          found = w.set-is ∙ c.loop-i.invariant.found
              ∙ ap (λ l. take n l) (sym (found taken i true c.loop-i-test.true v.if-not-is_taken.false
              ∙ append-nil xs));
          below = subst (λ l. All (λ k. k < i + 1) l) (sym w.set-is) more;
        }
      ]
    ]
