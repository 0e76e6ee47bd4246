-- Holds of a queue's slices, as they are shared and moved one by one.
use Rattle.std.proofs.Common.{◌≡◌, ℕ, ◌+◌, ◌<◌, ◌≤◌, ◌^◌, List, [], ◌∷◌, ◌++◌, length, take, get_or, sym, ap, ◌∙◌}
use Rattle.std.proofs.Common.{arith, append_assoc, subst}
use Rattle.iol_core.specs.declared.numbers.BufId.{BufId}
use Rattle.iol_hold.specs.StoreState.{Stored, count_of}
use Rattle.iol_hold.specs.Moves.{same, tally, Shares, Covers, IsCountable}
use Rattle.iol_hold.specs.declared.slices.Slice.{Slice}
use Rattle.iol_hold.specs.Texts.{bufs_of}
use Rattle.iol_agg.specs.Pours.{AreShareable}
use Rattle.iol_hold.proofs.Counts.{tally-append, tally_one, tally_none, same_self, bufs-push, bufs-take_more, tally-at}
use Rattle.iol_hold.proofs.Moves.{shares_none, shares_trans}

-- the same holds, with others that are both released and made
pub shares_as : {s t : Stored} {xs ys zs ws : List BufId} → Shares s t xs ys
    → ((b : BufId) → tally b ws + tally b xs ≡ tally b zs + tally b ys) → Shares s t zs ws
shares_as m e = record {
  counts = record { each = λ b. omega (arith, m.counts.each b, e b) };
  arena = m.arena;
  pools = m.pools;
  tidy = m.tidy;
}

-- Slices of which the first i were shared.

pub next_held : {s t : Stored} (xs : List Slice) (i : ℕ) (x : Slice) → i < length xs → x ≡ get_or xs i x
    → Covers s (bufs_of xs) → Shares s t [] (bufs_of (take i xs)) → 0 < count_of t x.hold.buf
next_held xs i x h e c m =
    let b : BufId = x.hold.buf in
    omega (arith, tally_none b, tally-at xs i x b h e, same_self b, c.each b, m.counts.each b)

pub next_countable : {s t : Stored} (xs : List Slice) (i : ℕ) (x : Slice) → i < length xs → x ≡ get_or xs i x
    → IsCountable s (bufs_of xs) → Shares s t [] (bufs_of (take i xs)) → count_of t x.hold.buf < 2 ^ 63
next_countable xs i x h e c m =
    let b : BufId = x.hold.buf in
    omega (arith, tally_none b, tally-at xs i x b h e, same_self b, c.each b, m.counts.each b)

pub shares_next : {s t u : Stored} (xs : List Slice) (i : ℕ) (x : Slice) → i < length xs → x ≡ get_or xs i x
    → Shares s t [] (bufs_of (take i xs)) → Shares t u [] (x.hold.buf ∷ []) → Shares s u [] (bufs_of (take (i + 1) xs))
shares_next {s = s} {u = u} xs i x h e m n = subst (Shares s u []) (sym (bufs-take_more xs i x h e)) (shares_trans m n)

-- a part of the next slice is added to the queue
pub bufs_next : (xs : List Slice) (i : ℕ) (x part : Slice) (old queue new : List Slice) → i < length xs
    → x ≡ get_or xs i x → part.hold ≡ x.hold → new ≡ queue ++ part ∷ []
    → bufs_of queue ≡ bufs_of old ++ bufs_of (take i xs) → bufs_of new ≡ bufs_of old ++ bufs_of (take (i + 1) xs)
bufs_next xs i x part old queue new h e hold pushed so_far =
    ap bufs_of pushed ∙ bufs-push queue part
    ∙ ap (λ t. t ++ part.hold.buf ∷ []) so_far
    ∙ append_assoc (bufs_of old) (bufs_of (take i xs)) (part.hold.buf ∷ [])
    ∙ ap (λ b. bufs_of old ++ (bufs_of (take i xs) ++ b ∷ [])) (ap (λ h. h.buf) hold)
    ∙ ap (λ t. bufs_of old ++ t) (sym (bufs-take_more xs i x h e))

-- the slices that were added to the queue are those that were shared
pub shares_into : {s t : Stored} (old new : List Slice) (bs : List BufId) → bufs_of new ≡ bufs_of old ++ bs
    → Shares s t [] bs → Shares s t (bufs_of old) (bufs_of new)
shares_into old new bs e m =
    shares_as m (λ b. omega (arith, tally_none b, ap (tally b) e, tally-append b (bufs_of old) bs))

-- The first slice.

pub first_tally : (old rest : List Slice) (x : Slice) (b : BufId) → old ≡ x ∷ rest
    → tally b (bufs_of old) ≡ same b x.hold.buf + tally b (bufs_of rest)
unfolding tally
first_tally old rest x b e = ap (λ xs. tally b (bufs_of xs)) e

pub first_held : {s : Stored} (old rest : List Slice) (x : Slice) → old ≡ x ∷ rest → Covers s (bufs_of old)
    → 0 < count_of s x.hold.buf
first_held old rest x e c = omega (arith, first_tally old rest x x.hold.buf e, same_self x.hold.buf, c.each x.hold.buf)

cons_tally : (x b : BufId) (xs : List BufId) → tally b (x ∷ xs) ≡ same b x + tally b xs
unfolding tally
cons_tally x b xs = omega arith

-- it is split, and its buffer gets one more hold
pub shares_split : {s t : Stored} (x part after : Slice) (old new rest : List Slice) → old ≡ x ∷ rest
    → new ≡ after ∷ rest → part.hold ≡ x.hold → after.hold ≡ x.hold → Shares s t [] (x.hold.buf ∷ [])
    → Shares s t (bufs_of old) (part.hold.buf ∷ bufs_of new)
shares_split x part after old new rest e f hold also m = shares_as m (λ b. omega (
  arith,
  tally_none b,
  tally_one b x.hold.buf,
  first_tally old rest x b e,
  cons_tally part.hold.buf b (bufs_of new),
  first_tally new rest after b f,
  ap (λ h. same b h.buf) hold,
  ap (λ h. same b h.buf) also,
))

-- Slices that move from the queue to another list.

-- there are none at first
pub none_tally : (out : List Slice) (b : BufId) → out ≡ [] → tally b (bufs_of out) ≡ 0
unfolding tally
none_tally out b e = ap (λ xs. tally b (bufs_of xs)) e

pub shares_start : (s : Stored) (queue out : List Slice) → out ≡ []
    → Shares s s (bufs_of queue) (bufs_of out ++ bufs_of queue)
shares_start s queue out e =
    shares_as (shares_none s)
    (λ b. omega (arith, tally_none b, none_tally out b e, tally-append b (bufs_of out) (bufs_of queue)))

moved_tally : (out moved : List Slice) (x : Slice) (b : BufId) → moved ≡ out ++ x ∷ []
    → tally b (bufs_of moved) ≡ tally b (bufs_of out) + same b x.hold.buf
moved_tally out moved x b e =
    omega (
      arith,
      ap (λ xs. tally b (bufs_of xs)) e,
      ap (tally b) (bufs-push out x),
      tally-append b (bufs_of out) (x.hold.buf ∷ []),
      tally_one b x.hold.buf,
    )

pub shares_moved : {s t u : Stored} (old out queue moved rest : List Slice) (x : Slice) → moved ≡ out ++ x ∷ []
    → Shares s t (bufs_of old) (bufs_of out ++ bufs_of queue) → Shares t u (bufs_of queue) (x.hold.buf ∷ bufs_of rest)
    → Shares s u (bufs_of old) (bufs_of moved ++ bufs_of rest)
shares_moved old out queue moved rest x e m n = record {
  counts = record {
    each = λ b. omega (
      arith,
      m.counts.each b,
      n.counts.each b,
      moved_tally out moved x b e,
      cons_tally x.hold.buf b (bufs_of rest),
      tally-append b (bufs_of out) (bufs_of queue),
      tally-append b (bufs_of moved) (bufs_of rest),
    );
  };
  arena = n.arena ∙ m.arena;
  pools = n.pools ∙ m.pools;
  tidy = λ h. n.tidy (m.tidy h);
}

pub fewer_moved : (old out queue moved rest : List Slice) (x : Slice) (b : BufId) → moved ≡ out ++ x ∷ []
    → tally b (bufs_of out) + tally b (bufs_of queue) ≤ tally b (bufs_of old)
    → same b x.hold.buf + tally b (bufs_of rest) ≤ tally b (bufs_of queue)
    → tally b (bufs_of moved) + tally b (bufs_of rest) ≤ tally b (bufs_of old)
fewer_moved old out queue moved rest x b e few split = omega (arith, moved_tally out moved x b e, few, split)

-- the rest of the queue can be shared
pub rest_shared : {s t : Stored} (old out queue : List Slice) → AreShareable s (bufs_of old)
    → ((b : BufId) → tally b (bufs_of out) + tally b (bufs_of queue) ≤ tally b (bufs_of old))
    → Shares s t (bufs_of old) (bufs_of out ++ bufs_of queue) → AreShareable t (bufs_of queue)
rest_shared old out queue may few m = record {
  covered =
      record {
        each =
            λ b. omega (arith, may.covered.each b, m.counts.each b, tally-append b (bufs_of out) (bufs_of queue));
      };
  countable =
      record {
        each =
            λ b. omega (
              arith,
              may.countable.each b,
              few b,
              m.counts.each b,
              tally-append b (bufs_of out) (bufs_of queue),
            );
      };
}
