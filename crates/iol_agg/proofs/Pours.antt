-- Slices that are poured, one after another.
use Rattle.std.proofs.Common.{◌≡◌, ℕ, ◌+◌, ◌<◌, ◌≤◌, ◌^◌, List, [], ◌∷◌, ◌++◌, length, take, drop, get_or, ap, ◌∙◌}
use Rattle.std.proofs.Common.{arith}
use Rattle.std.proofs.lemmas.List.{take-append-drop}
use Rattle.iol_core.specs.declared.numbers.BufId.{BufId}
use Rattle.iol_hold.specs.StoreState.{Stored, count_of}
use Rattle.iol_hold.specs.Moves.{tally, Shares, Covers, IsCountable}
use Rattle.iol_hold.specs.Texts.{bufs_of}
use Rattle.iol_hold.specs.declared.slices.Slice.{Slice}
use Rattle.iol_hold.proofs.Counts.{tally-append, tally_none, same_self, bufs-append, bufs-push, bufs-take_more}
use Rattle.iol_hold.proofs.Counts.{tally-at, tally-take}
use Rattle.iol_agg.specs.Pours.{AreShareable, Pours}

-- the last slices hold a buffer at most as often as all slices
tally-drop : (b : BufId) (xs : List Slice) (k : ℕ) → tally b (bufs_of (drop k xs)) ≤ tally b (bufs_of xs)
tally-drop b xs k =
    omega (
      arith,
      tally-append b (bufs_of (take k xs)) (bufs_of (drop k xs)),
      ap (λ l. tally b (bufs_of l)) (take-append-drop k xs),
      ap (tally b) (bufs-append (take k xs) (drop k xs)),
    )

-- the next step releases the holds that the first step made
pub shares_then : {a b c : Stored} {xs ys zs : List BufId} → Shares a b xs ys → Shares b c ys zs → Shares a c xs zs
shares_then m n = record {
  counts = record { each = λ b. omega (arith, m.counts.each b, n.counts.each b) };
  arena = n.arena ∙ m.arena;
  pools = n.pools ∙ m.pools;
  tidy = λ h. n.tidy (m.tidy h);
}

-- the same holds are added before and after
pub shares_beside : {a b : Stored} {xs ys : List BufId} (zs ws : List BufId)
    → ((b : BufId) → tally b zs + tally b ys ≡ tally b ws + tally b xs) → Shares a b xs ys → Shares a b zs ws
shares_beside zs ws e m = record {
  counts = record { each = λ b. omega (arith, m.counts.each b, e b) };
  arena = m.arena;
  pools = m.pools;
  tidy = m.tidy;
}

-- one more slice is added
pub pours_one : (s t : Stored) (xs : List Slice) (x : Slice) (b : BufId) → x.hold.buf ≡ b → Shares s t [] (b ∷ [])
    → Pours s t xs (xs ++ x ∷ []) (b ∷ [])
pours_one s t xs x b is m =
    let e : bufs_of (xs ++ x ∷ []) ≡ bufs_of xs ++ b ∷ [] = bufs-push xs x ∙ ap (λ c. bufs_of xs ++ c ∷ []) is in
    record {
      shares = record {
        counts =
            record {
              each =
                  λ c. omega (
                    arith,
                    m.counts.each c,
                    ap (tally c) e,
                    tally-append c (bufs_of xs) (b ∷ []),
                    tally_none c,
                  );
            };
        arena = m.arena;
        pools = m.pools;
        tidy = m.tidy;
      };
      kept = λ c. omega (arith, ap (tally c) e, tally-append c (bufs_of xs) (b ∷ []));
      most = λ c. omega (arith, ap (tally c) e, tally-append c (bufs_of xs) (b ∷ []));
    }

pub pours_trans : {a b c : Stored} {xs ys zs : List Slice} {s t u : List BufId}
    → ((b : BufId) → tally b s + tally b t ≤ tally b u) → Pours a b xs ys s → Pours b c ys zs t → Pours a c xs zs u
pours_trans u m n = record {
  shares = shares_then m.shares n.shares;
  kept = λ b. omega (arith, m.kept b, n.kept b);
  most = λ b. omega (arith, m.most b, n.most b, u b);
}

-- one more slice of the source is poured
pub pours_more : {a b c : Stored} {xs ys zs : List Slice} (ss : List Slice) (i : ℕ) (x : Slice) → i < length ss
    → x ≡ get_or ss i x
    → Pours a b xs ys (bufs_of (take i ss)) → Pours b c ys zs (x.hold.buf ∷ [])
    → Pours a c xs zs (bufs_of (take (i + 1) ss))
pours_more ss i x h e m n =
    pours_trans
    (λ b. omega (
      arith,
      ap (tally b) (bufs-take_more ss i x h e),
      tally-append b (bufs_of (take i ss)) (x.hold.buf ∷ []),
    )) m n

pub pours_within : {a b : Stored} {xs ys : List Slice} (ss : List Slice) (i : ℕ) → Pours a b xs ys (bufs_of (take i ss))
    → Pours a b xs ys (bufs_of ss)
pours_within ss i m = record {
  shares = m.shares;
  kept = m.kept;
  most = λ b. omega (arith, m.most b, tally-take b ss i);
}

-- the source begins earlier
pub pours_rest : {a b : Stored} {xs ys : List Slice} (ss : List Slice) (k : ℕ) → Pours a b xs ys (bufs_of (drop k ss))
    → Pours a b xs ys (bufs_of ss)
pours_rest ss k m = record {
  shares = m.shares;
  kept = m.kept;
  most = λ b. omega (arith, m.most b, tally-drop b ss k);
}

-- the buffer of the next slice is held
pub next_live : {a b : Stored} {xs ys : List Slice} (ss : List Slice) (i : ℕ) (x : Slice) → i < length ss
    → x ≡ get_or ss i x
    → Covers a (bufs_of ss) → Pours a b xs ys (bufs_of (take i ss)) → 0 < count_of b x.hold.buf
next_live ss i x h e c m =
    let y = x.hold.buf in
    omega (arith, c.each y, m.shares.counts.each y, m.kept y, tally-at ss i x y h e, same_self y)

pub next_few : {a b : Stored} {xs ys : List Slice} (ss : List Slice) (i : ℕ) (x : Slice) → i < length ss
    → x ≡ get_or ss i x
    → IsCountable a (bufs_of ss) → Pours a b xs ys (bufs_of (take i ss)) → count_of b x.hold.buf < 2 ^ 63
next_few ss i x h e c m =
    let y = x.hold.buf in
    omega (arith, c.each y, m.shares.counts.each y, m.most y, tally-at ss i x y h e)

-- Later slices can be shared, before a pour and after it.
pub shareable_drop : {s : Stored} (xs : List Slice) (k : ℕ) → AreShareable s (bufs_of xs)
    → AreShareable s (bufs_of (drop k xs))
shareable_drop xs k c = record {
  covered = record { each = λ b. omega (arith, c.covered.each b, tally-drop b xs k) };
  countable = record { each = λ b. omega (arith, c.countable.each b, tally-drop b xs k) };
}

pub shareable_less : {s : Stored} (ws zs : List BufId) → ((b : BufId) → tally b zs ≤ tally b ws) → IsCountable s ws
    → Covers s zs → AreShareable s zs
shareable_less ws zs h c covered =
    record { covered = covered; countable = record { each = λ b. omega (arith, c.each b, h b) } }

pub shareable_poured : {a b : Stored} {xs ys : List Slice} {source : List BufId} (ws zs : List BufId)
    → ((b : BufId) → tally b source + tally b zs ≤ tally b ws) → Pours a b xs ys source → IsCountable a ws → Covers a zs
    → AreShareable b zs
shareable_poured ws zs h m c covered = record {
  covered = record { each = λ b. omega (arith, covered.each b, m.shares.counts.each b, m.kept b) };
  countable = record { each = λ b. omega (arith, c.each b, m.shares.counts.each b, m.most b, h b) };
}

-- a list twice, and another list
pub tally_thrice : (b : BufId) (xs ys : List BufId) → tally b (xs ++ xs ++ ys) ≡ tally b xs + tally b xs + tally b ys
tally_thrice b xs ys = omega (arith, tally-append b (xs ++ xs) ys, tally-append b xs xs)
