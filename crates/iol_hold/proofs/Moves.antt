-- Moves of holds, one after another.
use Rattle.std.proofs.Common.{◌≡◌, ◌<◌, inl, inr, List, [], ◌∷◌, ◌++◌, refl, sym, ◌∙◌, arith, subst}
use Rattle.iol_core.specs.declared.numbers.BufId.{BufId}
use Rattle.iol_arena.specs.State.{State}
use Rattle.iol_arena.specs.Buffers.{IsLive, Keeps, bytes_of}
use Rattle.iol_arena.proofs.Keeps.{keeps_none, keeps_trans}
use Rattle.iol_hold.specs.StoreState.{Stored, count_of, IsStill, with_arena}
use Rattle.iol_hold.specs.Moves.{tally, Counts, Stays, Shares, Moves, Covers}
use Rattle.iol_hold.proofs.Counts.{tally-append, tally_one, tally_none, same_self}

pub counts_trans : {a b c : Stored} {xs ys zs ws : List BufId} → Counts a b xs ys → Counts b c zs ws
    → Counts a c (xs ++ zs) (ys ++ ws)
counts_trans {xs = xs} {ys = ys} {zs = zs} {ws = ws} m n =
    record { each = λ b. omega (arith, tally-append b xs zs, tally-append b ys ws, m.each b, n.each b) }

pub counts_none : (s : Stored) → Counts s s [] []
counts_none s = record { each = λ b. refl }

-- a buffer that is live before the first change and after the second is live between them
live_between : {a b c : State} (x : BufId) → Keeps a b → Keeps b c → IsLive a x → IsLive c x → IsLive b x
live_between x m n h k =
    elim (n.kept x k) [ inl l ↦ l.0 | inr g ↦ absurd (omega (arith, m.rising x.page, h.generation)) ]

pub shares_none : (s : Stored) → Shares s s [] []
shares_none s = record { counts = counts_none s; arena = refl; pools = refl; tidy = λ h. h }

pub shares_trans : {a b c : Stored} {xs ys zs ws : List BufId} → Shares a b xs ys → Shares b c zs ws
    → Shares a c (xs ++ zs) (ys ++ ws)
shares_trans m n = record {
  counts = counts_trans m.counts n.counts;
  arena = n.arena ∙ m.arena;
  pools =
      n.pools ∙ m.pools;
  tidy = λ h. n.tidy (m.tidy h);
}

pub stays_trans : {a b c : Stored} → Stays a b → Stays b c → Stays a c
stays_trans m n = record {
  keeps = keeps_trans m.keeps n.keeps;
  homes = λ p b h k home. (let mid = live_between b m.keeps n.keeps h k in n.homes p b mid k (m.homes p b h mid home));
}

-- only the arena changed
pub stays_arena : (s : Stored) (a : State) → Keeps s.arena a → Stays s (with_arena s a)
stays_arena s a keeps = record { keeps = keeps; homes = λ p b h k home. home }

-- the arena and the pools are unchanged
pub stays_same : (s t : Stored) → t.arena ≡ s.arena → t.pools ≡ s.pools → Stays s t
stays_same s t a p =
    let u : Stored = record { arena = s.arena; pools = s.pools; counts = t.counts } in
    let is : u ≡ t = (let a = sym a in let p = sym p in λ i. record { arena = a i; pools = p i; counts = t.counts }) in
    subst (Stays s) is (record { keeps = keeps_none s.arena; homes = λ p b h k home. home })

pub shares_move : {s t : Stored} {xs ys : List BufId} → Shares s t xs ys → Moves s t xs ys
shares_move {s = s} {t = t} m = record {
  counts = m.counts;
  stays = stays_same s t m.arena m.pools;
  still = λ h. subst IsStill (sym m.arena) h;
  tidy = m.tidy;
}

pub moves_none : (s : Stored) → Moves s s [] []
moves_none s = shares_move (shares_none s)

pub moves_trans : {a b c : Stored} {xs ys zs ws : List BufId} → Moves a b xs ys → Moves b c zs ws
    → Moves a c (xs ++ zs) (ys ++ ws)
moves_trans m n = record {
  counts = counts_trans m.counts n.counts;
  stays = stays_trans m.stays n.stays;
  still = λ h. n.still (m.still h);
  tidy = λ h. n.tidy (m.tidy h);
}

-- Holds that cover a list of buffers.

pub covers_first : {s : Stored} (b : BufId) (bs : List BufId) → Covers s (b ∷ bs) → 0 < count_of s b
unfolding tally
covers_first b bs c = omega (arith, c.each b, same_self b)

pub covers_later : {s : Stored} (b : BufId) (bs : List BufId) → Covers s (b ∷ bs) → Covers s bs
unfolding tally
covers_later b bs c = record { each = λ a. omega (arith, c.each a) }

-- the first of them is released
pub covers_less : {s t : Stored} (b : BufId) (bs : List BufId) → Covers s (b ∷ bs) → Counts s t (b ∷ []) []
    → Covers t bs
unfolding tally
covers_less b bs c m = record { each = λ a. omega (arith, c.each a, m.each a) }

-- holds that were just made are covered
pub covers_given : {s t : Stored} {bs : List BufId} → Counts s t [] bs → Covers t bs
unfolding tally
covers_given m = record { each = λ a. omega (arith, m.each a) }

-- one more hold is released
pub moves_less : {a b c : Stored} {xs ys : List BufId} {y : BufId} → Moves a b xs (ys ++ y ∷ []) → Moves b c (y ∷ []) []
    → Moves a c xs ys
moves_less {ys = ys} {y = y} m n = record {
  counts =
      record { each = λ b. omega (arith, tally-append b ys (y ∷ []), tally_none b, m.counts.each b, n.counts.each b) };
  stays = stays_trans m.stays n.stays;
  still = λ h. n.still (m.still h);
  tidy = λ h. n.tidy (m.tidy h);
}

-- the last of the covered holds that are left is held
pub last_held : (a b : Stored) (xs ys : List BufId) (y : BufId) → Covers a xs → Moves a b xs (ys ++ y ∷ [])
    → 0 < count_of b y
last_held a b xs ys y c m =
    omega (arith, tally-append y ys (y ∷ []), tally_one y y, same_self y, c.each y, m.counts.each y)

-- a buffer that is live before and after has the same bytes
pub bytes_stay : (s t : Stored) (b : BufId) → Stays s t → IsLive s.arena b → IsLive t.arena b
    → bytes_of t.arena b ≡ bytes_of s.arena b
bytes_stay s t b m h k = elim (m.keeps.kept b k) [ inl e ↦ e.1 | inr g ↦ absurd (omega (arith, h.generation)) ]
