-- Reserved pages: no buffer is made or freed, and no other page becomes pending.
use Rattle.std.proofs.Common.{◌≡◌, ℕ, ◌+◌, ◌<◌, inl, inr, List, [], Ok, drop, length, get_or, refl, sym, ap, ◌∙◌, arith}
use Rattle.std.proofs.Common.{subst}
use Rattle.iol_core.specs.declared.numbers.BufId.{BufId}
use Rattle.iol_arena.specs.State.{State, HasRuns, entry_at, entry_in, kind_head}
use Rattle.iol_arena.specs.Buffers.{IsLive, Spares, Grows, kind_len}
use Rattle.iol_arena.specs.Parts.{AreAll, IsWaiting, no_part, part_pages}
use Rattle.iol_arena.specs.declared.pages.Part.{Part}
use Rattle.iol_arena.specs.declared.pages.Entry.{Entry}
use Rattle.iol_arena.specs.declared.pages.PageKind.TheVariants.{Pending, Head}
use Rattle.iol_arena.proofs.Members.{In, in_or_out, in_contains, contains_in}
use Rattle.iol_arena.proofs.MarkedParts.{page_all}
use Rattle.iol_arena.specs.Pages.{IsSameBut}
use Rattle.iol_arena.proofs.Grows.{grows_none, grows_trans}
use Rattle.iol_arena.proofs.NewBuffers.{made_none}
use Rattle.iol_arena.proofs.Keeps.{keeps_trans}
use Rattle.iol_arena.proofs.Steps.{all_at, some_at}
use Rattle.iol_hold.specs.StoreState.{Stored, count_in, count_of, IsInPool, IsTidy, with_arena}
use Rattle.iol_hold.specs.Moves.{tally, Counts, Moves}
use Rattle.iol_hold.specs.PendingPages.{PendingOn, Fills, Publishes}
use Rattle.iol_hold.proofs.Counts.{no_head, count_live}
use Rattle.iol_hold.specs.Fillings.{IsHeld}
use Rattle.iol_hold.specs.NewBuffers.{FillsHolds}
use Rattle.iol_hold.specs.Room.{free_of}
use Rattle.iol_hold.specs.declared.parts.Reserved.{Reserved}
use Rattle.iol_hold.specs.View.{stored, IsSoundInside}
use Rattle.iol_hold.specs.declared.store.Store.TheInside.{Inside}
use Rattle.iol_pool.proofs.Owners.{owned_stays}
use Rattle.iol_hold.proofs.LiveBuffers.{HoldsAll, holds_all, placed_stays, tidy_of}
use Rattle.iol_hold.proofs.Moves.{counts_trans, moves_none}
use Rattle.iol_hold.proofs.Rooms.{no_pages, room_for_none}

-- the entry of a live buffer's first page is unchanged
spared_first : (s t : State) (b : BufId) → Spares s t → IsLive s b → entry_at t b.page ≡ entry_at s b.page
spared_first s t b spares live =
    elim (spares.each b.page) [ inl e ↦ e | inr f ↦ (let head = ap kind_head live.head in absurd (cc (head, f.0))) ]

pub spare_counts : (s : Stored) (a : State) → Spares s.arena a → Counts s (with_arena s a) [] []
unfolding count_of
spare_counts s a spares = record {
  each = λ b. elim (spares.each b.page) [
    | inl e ↦ ap (λ x. count_in x (get_or s.counts b.page 0) b.generation + tally b []) e
    | inr e ↦
        omega (
          arith,
          no_head (entry_at a b.page) (get_or s.counts b.page 0) b.generation e.1,
          no_head (entry_at s.arena b.page) (get_or s.counts b.page 0) b.generation e.0,
        )
  ];
}

-- if no buffer was made, every live buffer is held
pub spare_held : (s : Stored) (a : State) → Spares s.arena a → HoldsAll s → (b : BufId) → IsLive a b
    → 0 < count_of (with_arena s a) b
spare_held s a spares tidy b live = elim (spares.each b.page) [
  | inl e ↦
      (let was : IsLive s.arena b =
      record {
        head = subst (λ (x : Entry). x.kind ≡ Head (kind_len x.kind)) e live.head;
        generation =
            sym (ap (λ x. x.generation) e) ∙ live.generation;
      } in
      omega (arith, count_live (with_arena s a) b live, count_live s b was, tidy.held b was))
  | inr none ↦ (let head = ap kind_head live.head in absurd (cc (head, none.1)))
]

-- the pages of the parts are pending, and no other page changed
module _ (s : Stored) (a : State) (ps : List Part) (spares : Spares s.arena a)
    (others : IsSameBut (part_pages ps) s.arena a) (all : AreAll Pending a.limit a.entries ps) where
  out_same : (q : ℕ) → (In (part_pages ps) q → ⊥) → entry_at a q ≡ entry_at s.arena q
  out_same q out = others.each q (λ h. out (in_contains (part_pages ps) q h))

  pub reserve_held : HoldsAll s → HoldsAll (with_arena s a)
  reserve_held tidy = record {
    held = spare_held s a spares tidy;
    placed = λ q. elim (in_or_out (part_pages ps) q) [
      | inl there ↦ inr (inl (page_all Pending a.limit a.entries ps q all there).0)
      | inr out ↦ placed_stays s.arena a q (out_same q out) (λ b live lies. spared_first s.arena a b spares live)
          (tidy.placed q)
    ];
  }

  pub reserve_waits : PendingOn s.arena ps → PendingOn a ps
  reserve_waits waits = record {
    each = λ q pending. elim (in_or_out (part_pages ps) q) [
      | inl there ↦ contains_in (part_pages ps) q there
      | inr out ↦ waits.each q (sym (ap (λ e. e.kind) (out_same q out)) ∙ pending)
    ];
  }

-- only bytes changed
pub same_spares : (s a : State) → a.entries ≡ s.entries → Spares s a
same_spares s a e = record { each = λ q. inl (ap (λ (es : List Entry). entry_in es q) e) }

pub same_tidy : (s : Stored) (a : State) → a.entries ≡ s.arena.entries → a.taken ≡ s.arena.taken → IsTidy s
    → IsTidy (with_arena s a)
same_tidy s a e t tidy =
    let spares = same_spares s.arena a e in
    let holds : HoldsAll (with_arena s a) = record {
      held = spare_held s a spares (holds_all tidy);
      placed =
          λ q. placed_stays s.arena a q (ap (λ (es : List Entry). entry_in es q) e)
          (λ b live lies. spared_first s.arena a b spares live) (tidy.placed q);
    } in
    tidy_of holds (subst HasRuns (sym e) tidy.runs) (owned_stays s.arena a s.pools t tidy.owned)

pub same_fills : (s : Stored) (a : State) (ps : List Part) → a.entries ≡ s.arena.entries → Grows s.arena a
    → Fills s (with_arena s a) ps
same_fills s a ps e grows = record {
  counts = spare_counts s a (same_spares s.arena a e);
  grows = grows;
  unraised = λ q. ap (λ (es : List Entry). (entry_in es q).generation) e;
  pools = refl;
  waits =
      λ h. record { each = λ q pending. h.each q (sym (ap (λ (es : List Entry). (entry_in es q).kind) e) ∙ pending) };
}

pub same_sound : (i : Inside) (a : State) → a.entries ≡ i.arena.entries → a.taken ≡ i.arena.taken → IsSoundInside i
    → IsSoundInside (record { arena = a; pools = i.pools; counts = i.counts })
same_sound i a e t sound = record {
  counts = sound.counts ∙ sym (ap length e);
  tidy = same_tidy (stored i) a e t sound.tidy;
}

pub same_held : (s : Stored) (r : Reserved) (a : State) → a.entries ≡ s.arena.entries → a.limit ≡ s.arena.limit
    → IsHeld s r → IsHeld (with_arena s a) r
same_held s r a e l held = record {
  pages = record {
    pending =
        subst (λ n. AreAll Pending n a.entries r.reservation.parts.items) (sym l)
        (subst (λ (es : List Entry). AreAll Pending s.arena.limit es r.reservation.parts.items) (sym e)
        held.pages.pending);
    apart = held.pages.apart;
    room = held.pages.room;
    none = held.pages.none;
  };
  inside = held.inside;
}

-- Parts that are filled, and then published.

pub fills_trans : {a b c : Stored} {ps : List Part} → Fills a b ps → Fills b c ps → Fills a c ps
fills_trans m n = record {
  counts = counts_trans m.counts n.counts;
  grows = grows_trans m.grows n.grows;
  unraised = λ q. n.unraised q ∙ m.unraised q;
  pools = n.pools ∙ m.pools;
  waits = λ h. n.waits (m.waits h);
}

pub fill_publish : {a b c : Stored} {ps : List Part} {given : List BufId} → Fills a b ps → Publishes b c ps given
    → IsTidy c → Moves a c [] given
fill_publish {a} {b} {c} m n tidy = record {
  counts = counts_trans m.counts n.counts;
  stays =
      record {
        keeps = keeps_trans m.grows.keeps n.grows.keeps;
        homes =
            λ p b h k home. subst (λ qs. IsInPool (record a { pools = qs }) p b) (sym (n.pools ∙ m.pools)) home;
      };
  still = λ h. n.still (m.waits (record { each = λ q pending. absurd (h.each q pending) }));
  tidy = λ h. tidy;
}

-- zero bytes are filled in
pub none_filled : (s : Stored) (p : ℕ) → IsTidy s → FillsHolds s s p [] (Ok [])
none_filled s p tidy = record {
  moves = moves_none s;
  made = λ k d h. absurd (omega arith);
  value = refl;
  filled = λ k d h. absurd (omega arith);
  made_on = made_none s.arena (free_of s p);
  others = record { each = λ q out. refl };
  reclaims = λ h. h;
  pool = λ k d h. absurd (omega arith);
  few = omega arith;
  small = omega arith;
  grows = grows_none s.arena;
  lowest = sym (ap (λ n. drop n (free_of s p)) no_pages);
  pools = refl;
  tidy = tidy;
  room = room_for_none s p;
  no_room = λ q is. absurd (cc is);
  late = tt;
  err = tt;
}

-- Pending parts, one by one. The parts are those that a call returned.

pub part_waits : (s : Stored) (r : Reserved) (ps : List Part) (i : ℕ) → ps ≡ r.reservation.parts.items → IsHeld s r
    → i < length r.reservation.parts.items → IsWaiting s.arena (get_or ps i no_part)
part_waits s r ps i e h within =
    let qs = r.reservation.parts.items in
    subst (λ (l : List Part). IsWaiting s.arena (get_or l i no_part)) (sym e)
    (record {
      pending = all_at Pending s.arena.limit s.arena.entries qs i h.pages.pending within;
      some =
          some_at 0 qs i h.pages.apart within;
    })
