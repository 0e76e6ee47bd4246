-- A buffer is freed with its last hold.
use Rattle.std.proofs.Common.{◌≡◌, refl, ℕ, inl, inr, [], ◌∷◌, get_or, sym, ap, ◌∙◌, arith, subst}
use Rattle.iol_core.specs.declared.numbers.BufId.{BufId}
use Rattle.iol_arena.specs.State.{State, HasRuns, entry_at, kind_head, page_count, marked, pages_for}
use Rattle.iol_arena.specs.Buffers.{IsLive, kind_len, Keeps, Frees, with_freed, len_of}
use Rattle.iol_arena.specs.declared.pages.PageKind.TheVariants.{Free, Head}
use Rattle.iol_arena.proofs.Each.{length-each_from}
use Rattle.iol_arena.proofs.Marks.{can_free}
use Rattle.iol_pool.proofs.Owners.{owned_stays}
use Rattle.iol_hold.specs.StoreState.{Stored, count_in, count_of, IsTidy, with_arena}
use Rattle.iol_hold.specs.Moves.{Counts, Moves}
use Rattle.iol_hold.proofs.Counts.{one_counts, no_head, absent, live_of, count_live, tally_one, tally_none, same_self}
use Rattle.iol_hold.proofs.Moves.{stays_arena}
use Rattle.iol_hold.proofs.LiveBuffers.{HoldsAll, tidy_of, freed_placed, freed_still, freed_live}

module _ (s : Stored) (b : BufId) (one : count_of s b ≡ 1) (frees : Frees s.arena (with_freed s.arena b.page) b.page)
  where
    abbrev left : Stored
    left = with_arena s (with_freed s.arena b.page)

    live : IsLive s.arena b
    live = live_of s b (omega (arith, one))

    freed_counts : Counts s left (b ∷ []) []
    unfolding count_of
    freed_counts = one_counts s left b (b ∷ []) []
        (λ a ne. elim (frees.others a.page ne) [
          | inl e ↦ ap (λ x. count_in x (get_or s.counts a.page 0) a.generation) e
          | inr e ↦ no_head (entry_at left.arena a.page) (get_or s.counts a.page 0) a.generation e.1
              ∙ sym (no_head (entry_at s.arena a.page) (get_or s.counts a.page 0) a.generation e.0)
        ])
        (λ a e ne. (let now : (entry_at s.arena a.page).generation ≡ a.generation → ⊥ =
        λ g. ne (sym g ∙ ap (λ p. (entry_at s.arena p).generation) e ∙ live.generation) in (
          absent (entry_at s.arena a.page) (get_or s.counts a.page 0) a.generation now,
          no_head (entry_at left.arena a.page) (get_or s.counts a.page 0) a.generation
              (ap (λ p. kind_head (entry_at left.arena p).kind) e ∙ frees.gone),
        )))
        (λ a none. omega (arith, tally_one a b, tally_none a, none))
        (omega (
          arith,
          no_head (entry_at left.arena b.page) (get_or s.counts b.page 0) b.generation frees.gone,
          one,
          tally_one b b,
          same_self b,
          tally_none b,
        ))

    pub freed_runs : HasRuns s.arena.entries → HasRuns left.arena.entries
    freed_runs runs =
        (can_free s.arena.entries b.page (len_of s.arena b) runs live.head).each (pages_for (len_of s.arena b))
        (omega arith)

    freed_held : IsTidy s → HoldsAll left
    freed_held tidy = record {
      held = λ a h. (
          let x = freed_live s.arena b.page (len_of s.arena b) live.head frees a h in
          let was : IsLive s.arena a =
          record {
            head = subst (λ e. e.kind ≡ Head (kind_len e.kind)) x.1 h.head;
            generation =
                ap (λ e. e.generation) (sym x.1) ∙ h.generation;
          } in
          omega (arith, count_live left a h, count_live s a was, tidy.held a was));
      placed = λ q. freed_placed s.arena b.page (len_of s.arena b) live.head frees q (tidy.placed q);
    }

    pub freed_tidy : IsTidy s → IsTidy left
    freed_tidy tidy =
        tidy_of (freed_held tidy) (freed_runs tidy.runs) (owned_stays s.arena left.arena s.pools refl tidy.owned)

    pub freed_moves : Keeps s.arena (with_freed s.arena b.page) → Moves s left (b ∷ []) []
    freed_moves keeps = record {
      counts = freed_counts;
      stays = stays_arena s left.arena keeps;
      still = freed_still s.arena b.page (len_of s.arena b) live.head frees;
      tidy = freed_tidy;
    }

pub length-with_freed : (s : State) (p : ℕ) → page_count (with_freed s p) ≡ page_count s
length-with_freed s p = length-each_from (marked Free 0) p (pages_for (kind_len (entry_at s p).kind)) s.entries
