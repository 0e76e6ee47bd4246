-- The extents that a write puts in place of a range, and the store that has their bytes.
use Rattle.std.proofs.Common.{inl, inr, ◌≡◌, ◌∙◌, ℕ, ◌+◌, ◌-◌, ◌<◌, ◌≤◌, ◌^◌, List, [], ◌++◌, map, Option, Some, None}
use Rattle.std.proofs.Common.{refl, sym, ap, arith, subst}
use Rattle.std.specs.Prelude.{MatchOption}
use Rattle.std.proofs.lemmas.Bool.{cases_lt}
use Rattle.iol_arena.specs.State.{page_count}
use Rattle.iol_core.specs.Text as text
use Rattle.iol_core.specs.declared.limits.TheConstants.{MAX_FILE_BYTES}
use Rattle.iol_core.specs.declared.numbers.BufId.{BufId}
use Rattle.iol_hold.specs.Moves.{Covers, Moves, SameLists, Shares, pool_meant, tally}
use Rattle.iol_hold.specs.Places.{byte_len}
use Rattle.iol_hold.specs.StoreState.{Stored}
use Rattle.iol_hold.specs.Texts.{AllReadable, bufs_of, text_of}
use Rattle.iol_hold.specs.declared.slices.Slice.{Slice}
use Rattle.iol_hold.proofs.Counts.{bufs-append, tally-append, tally_none}
use Rattle.iol_hold.proofs.Moves.{shares_move, stays_trans}
use Rattle.iol_hold.proofs.ReadSlices.{readable_none, readable_taken}
use Rattle.iol_extent.specs.Extents.{Extent, end_of, extent_over, last_end}
use Rattle.iol_cache.specs.CacheState.{Cached, extents_in, file_in, held, all_parts}
use Rattle.iol_cache.specs.Cuts.{CutsLeft, CutsRight, IsBefore}
use Rattle.iol_cache.specs.Evictions.{Holding}
use Rattle.iol_cache.specs.Overwrites.{MayOverwrite}
use Rattle.iol_cache.specs.Preparation.{Prepares}
use Rattle.iol_cache.specs.SharedBytes.{CountsBelow}
use Rattle.iol_cache.specs.Sound.{IsLaid, IsSound}
use Rattle.iol_cache.specs.Writes.{MayPutOver, parts_put}
use Rattle.iol_cache.specs.declared.write.cut.Replacement.{Replacement}
use Rattle.iol_cache.proofs.RangeWrites.Composition.{composed_long}
use Rattle.iol_cache.proofs.RangeWrites.Cuts.{right_of}
use Rattle.iol_cache.proofs.RangeReads.OnePool.{pooled_text}
use Rattle.iol_cache.proofs.RangeReads.WholeRange.{tally_len}
use Rattle.iol_cache.proofs.RangeReads.SharedBytes.{over_readable, readable_same}
use Rattle.iol_cache.proofs.Extents.StoreSteps.{sound_on}
use Rattle.iol_cache.proofs.RangeWrites.ReplacedRange.{left_len, over_end}

-- The parts can be read.

pub left_readable : {s : Stored} (es : List Extent) (from : ℕ) (x : Extent) → AllReadable s (all_parts es)
    → CutsLeft es from x → AllReadable s x.parts
left_readable {s = s} es from x all cut = pick (extent_over es from) refl cut.cut
  where
    pick : (o : Option Extent) → extent_over es from ≡ o → MatchOption o (x.parts ≡ []) (IsBefore from x)
        → AllReadable s x.parts
    pick None is none = subst (AllReadable s) (sym none) (readable_none s)
    pick (Some e) is before =
        readable_taken {s = s} x.parts e.parts (from - e.at) before.is (over_readable {s = s} es from e is all)

-- How long they are.

pub right_len : (es : List Extent) (to : ℕ) (x : Extent) → 0 < to → CutsRight es to x → x.at ≡ to
    → last_end es ≤ MAX_FILE_BYTES → to ≤ MAX_FILE_BYTES → end_of x ≤ MAX_FILE_BYTES
right_len es to x pos cut begins short small = elim (cases_lt 0 (byte_len x.parts)) [
  | inl some ↦
      (let r = right_of es to x pos cut some in omega (arith, r.ends, over_end es (to - 1) r.extent r.over, short))
  | inr none ↦ omega (arith, none, begins, small)
]

-- The store that has their bytes.

module _ {s t : Stored} {p : ℕ} {es : List Extent} {at : ℕ} {source : List Slice} {left right e : Extent}
    (a : Prepares s t p es at source left right e) where
  tally_put : (b : BufId) → tally b (bufs_of (parts_put left right e)) ≡ tally b (bufs_of left.parts)
      + tally b (bufs_of right.parts) + tally b (bufs_of e.parts)
  tally_put b = omega (
    arith,
    ap (tally b) (bufs-append left.parts (right.parts ++ e.parts)),
    ap (tally b) (bufs-append right.parts e.parts),
    tally-append b (bufs_of left.parts) (bufs_of (right.parts ++ e.parts)),
    tally-append b (bufs_of right.parts) (bufs_of e.parts),
  )

  pub prepared_moves : Moves s t [] (bufs_of (parts_put left right e))
  prepared_moves = record {
    counts =
        record {
          each =
              λ b. omega (
                arith,
                a.composes.moves.counts.each b,
                a.shares.counts.each b,
                tally_none b,
                tally_put b,
                tally-append b (bufs_of left.parts) (bufs_of right.parts),
              );
        };
    stays = stays_trans a.composes.moves.stays (shares_move a.shares).stays;
    still = λ h. (shares_move a.shares).still (a.composes.moves.still h);
    tidy = λ h. (shares_move a.shares).tidy (a.composes.moves.tidy h);
  }

  pub prepared_lists : SameLists s t
  prepared_lists = ap (map pool_meant) (a.shares.pools ∙ a.composes.pages.pools)

  pub prepared_pages : page_count t.arena ≡ page_count s.arena
  prepared_pages = ap page_count a.shares.arena ∙ a.composes.pages.pages.count

  pub prepared_covers : (bufs : List BufId) → Covers s bufs → Covers t (bufs ++ bufs_of (parts_put left right e))
  prepared_covers bufs c =
      record {
        each =
            λ b. omega (
              arith,
              c.each b,
              prepared_moves.counts.each b,
              tally_none b,
              tally-append b bufs (bufs_of (parts_put left right e)),
            );
      }

  pub prepared_held : (bufs : List BufId) → Covers s bufs → Covers t bufs
  prepared_held bufs c = record { each = λ b. omega (arith, c.each b, prepared_moves.counts.each b, tally_none b) }

  pub prepared_sound : (c : Cached) → IsSound s c → IsSound t c
  prepared_sound c sound =
      sound_on s t c sound prepared_moves (prepared_held (held c.files) sound.covered) prepared_lists prepared_pages

  pub prepared_long : byte_len e.parts ≡ byte_len source
  prepared_long = composed_long a.composes

  pub prepared_ends : end_of e ≡ at + byte_len source
  prepared_ends = omega (arith, a.begins, prepared_long)

  pub prepared_few : CountsBelow s (2 ^ 60) → at + byte_len source ≤ MAX_FILE_BYTES → 0 < byte_len source
      → last_end es ≤ MAX_FILE_BYTES → CountsBelow t (2 ^ 61)
  prepared_few few short some ends =
      let l = left_len es at left a.before in
      let r = right_len es (at + byte_len source) right (omega (arith, some)) a.after a.ends ends short in
      record {
        each =
            λ b. omega (
              arith,
              few.each b,
              prepared_moves.counts.each b,
              tally_none b,
              tally_put b,
              tally_len b left.parts,
              tally_len b right.parts,
              tally_len b e.parts,
              prepared_long,
              l,
              r,
              short,
            );
      }

  pub prepared_laid : IsLaid t p e
  prepared_laid = record {
    readable = readable_same a.mid t e.parts a.shares.arena a.shares.pools a.composes.readable;
    home = pooled_text a.mid p e.parts (text.bytes_of (text_of s source)) a.composes.is;
  }

-- the prepared extents may be put in place of the range
pub prepared_may : (h : Holding) (t : Stored) (f at : ℕ) (source : List Slice) (put : Replacement)
    → MayOverwrite f at source h
    → Prepares h.store t (file_in h.cache.files f).pool (extents_in h.cache.files f) at source put.left put.right
    put.bytes
    → MayPutOver f (record { from = at; to = at + byte_len source }) put (record { store = t; cache = h.cache })
prepared_may h t f at source put over a =
    let may = over.may in
    let filed = may.sound.files f in
    record {
      sound = prepared_sound a h.cache may.sound;
      file = may.file;
      short = may.short;
      cuts = record {
        some = omega (arith, over.some);
        before = a.before;
        after = a.after;
        fits =
            omega (
              arith,
              right_len (extents_in h.cache.files f) (at + byte_len source) put.right
                  (omega (arith, over.some)) a.after a.ends filed.short may.short,
            );
        begins = a.begins;
        ends = prepared_ends a;
      };
      laid = prepared_laid a;
      held = prepared_covers a (held h.cache.files) may.sound.covered;
      few = prepared_few a may.few may.short over.some filed.short;
      places = over.places;
    }

-- Prepared parts that are released.

pub composed_few : {s t : Stored} (out : List Slice) → Moves s t [] (bufs_of out) → byte_len out ≤ MAX_FILE_BYTES
    → CountsBelow s (2 ^ 61) → CountsBelow t (2 ^ 61 + 2 ^ 32)
composed_few out m small few =
    record { each = λ b. omega (arith, few.each b, m.counts.each b, tally_none b, tally_len b out, small) }

pub cut_few : {s t : Stored} (xs : List Slice) → Shares s t [] (bufs_of xs) → byte_len xs < 2 ^ 32
    → CountsBelow s (2 ^ 61 + 2 ^ 32) → CountsBelow t (2 ^ 62)
cut_few xs m small few =
    record { each = λ b. omega (arith, few.each b, m.counts.each b, tally_none b, tally_len b xs, small) }

pub few_more : {s : Stored} → CountsBelow s (2 ^ 61 + 2 ^ 32) → CountsBelow s (2 ^ 62)
few_more few = record { each = λ b. omega (arith, few.each b) }

pub still_held : {s t u : Stored} {xs ys : List BufId} → Moves s t [] xs → Moves t u [] ys → Covers u xs
still_held a b = record { each = λ x. omega (arith, a.counts.each x, b.counts.each x, tally_none x) }

pub held_after : {s t u v : Stored} {xs ys : List BufId} → Moves s t [] xs → Moves t u [] ys → Moves u v ys []
    → Covers v xs
held_after a b c = record { each = λ x. omega (arith, a.counts.each x, b.counts.each x, c.counts.each x, tally_none x) }
