-- Slices of whole buffers at the end of a queue, one after another.
use Rattle.std.proofs.Common.{◌≡◌, ℕ, ◌+◌, List, [], ◌∷◌, ◌++◌, length, refl, sym, ap, ◌∙◌, subst, arith, append_assoc}
use Rattle.std.proofs.Common.{append-nil}
use Rattle.std.specs.List.{All}
use Rattle.std.proofs.lemmas.List.{length-map}
use Rattle.std.proofs.lemmas.List.Elements.{All-head}
use Rattle.iol_core.specs.Text as text
use Rattle.iol_arena.specs.Buffers.{Grows, bytes_of, bytes_in}
use Rattle.iol_arena.specs.Pages.{IsSameBut, MadeOn}
use Rattle.iol_arena.proofs.Grows.{grows_none}
use Rattle.iol_arena.proofs.NewBuffers.{made_none, same_but_entries}
use Rattle.iol_hold.specs.Moves.{Moves}
use Rattle.iol_hold.specs.Places.{byte_len}
use Rattle.iol_hold.specs.Room.{free_of, lowest_of}
use Rattle.iol_hold.specs.StoreState.{Stored, Buffer, AllReclaimed, held_bufs}
use Rattle.iol_hold.specs.Texts.{text_of, bufs_of, AllReadable, IsFilled}
use Rattle.iol_hold.specs.declared.slices.Slice.{Slice}
use Rattle.iol_hold.proofs.Counts.{bufs-push}
use Rattle.iol_hold.proofs.Moves.{moves_none}
use Rattle.iol_hold.proofs.PageChanges.{keeps_pages_made}
use Rattle.iol_hold.proofs.ReadSlices.{readable_none, readable_push, length-text_of}
use Rattle.iol_hold.proofs.SlicePlaces.{byte_len-append}
use Rattle.iol_agg.specs.Parts.{whole_texts}
use Rattle.iol_agg.proofs.Wholes.{whole_readable, text_whole, whole_texts-one}
use Rattle.iol_pipe.specs.NewBytes.{AddsBytes, AddsWhole}
use Rattle.iol_pipe.proofs.PartCounts.{few_made}

-- the slices of some of the buffers were added, and those of `left` are still to be added
pub record WholeSoFar (s : Stored) (old now : List Slice) (left all : List Buffer) : Type 0 where
  pub slices : List Slice
  pub added : now ≡ old ++ slices
  pub is_text : text_of s slices ++ whole_texts s left ≡ whole_texts s all
  pub readable : AllReadable s slices
  pub bufs : bufs_of slices ++ held_bufs left ≡ held_bufs all

pub whole_start : (s : Stored) (old : List Slice) (all : List Buffer) → WholeSoFar s old old all all
whole_start s old all = record {
  slices = [];
  added = sym (append-nil old);
  is_text = refl;
  readable = readable_none s;
  bufs = refl;
}

pub whole_more : (s : Stored) (old now new : List Slice) (left rest all : List Buffer) (h : Buffer) (x : Slice)
    → WholeSoFar s old now left all → left ≡ h ∷ rest → All (IsFilled s) left → x.hold ≡ h → x.from ≡ 0
    → x.len ≡ length (bytes_of s.arena h.buf) → new ≡ now ++ x ∷ [] → WholeSoFar s old new rest all
whole_more s old now new left rest all h x w first filled is start size pushed =
    let good : IsFilled s h = All-head (IsFilled s) h rest (subst (All (IsFilled s)) first filled) in
    record {
      slices = w.slices ++ x ∷ [];
      added = pushed ∙ ap (λ t. t ++ x ∷ []) w.added ∙ append_assoc old w.slices (x ∷ []);
      is_text = ap (λ t. t ++ whole_texts s rest) (text_whole s h w.slices x good is start size)
          ∙ append_assoc (text_of s w.slices) (text.labelled h.pool (bytes_of s.arena h.buf)) (whole_texts s rest)
          ∙ ap (λ l. text_of s w.slices ++ whole_texts s l) (sym first)
          ∙ w.is_text;
      readable = readable_push w.slices x w.readable (whole_readable s h x good is start size);
      bufs = ap (λ l. l ++ held_bufs rest) (bufs-push w.slices x)
          ∙ ap (λ (k : Buffer). (bufs_of w.slices ++ k.buf ∷ []) ++ held_bufs rest) is
          ∙ append_assoc (bufs_of w.slices) (h.buf ∷ []) (held_bufs rest)
          ∙ ap (λ l. bufs_of w.slices ++ held_bufs l) (sym first)
          ∙ w.bufs;
    }

pub whole_end : (s : Stored) (old now : List Slice) (left all : List Buffer) → WholeSoFar s old now left all → left ≡ []
    → AddsWhole s old now all
whole_end s old now left all w none = record {
  slices = w.slices;
  added = w.added;
  whole = record {
    text = sym (append-nil (text_of s w.slices)) ∙ ap (λ l. text_of s w.slices ++ whole_texts s l) (sym none)
        ∙ w.is_text;
    readable = w.readable;
    bufs = sym (append-nil (bufs_of w.slices)) ∙ ap (λ l. bufs_of w.slices ++ held_bufs l) (sym none) ∙ w.bufs;
  };
}

-- Buffers of new bytes of a pool.

module _ (s t : Stored) (old new : List Slice) (pool : ℕ) (bytes : List ℕ) (holds : List Buffer)
    (adds : AddsWhole t old new holds) (all : All (λ (h : Buffer). h.pool ≡ pool) holds)
    (value : bytes_in t.arena (held_bufs holds) ≡ bytes) where
  text_added : text_of t adds.slices ≡ text.labelled pool bytes
  text_added = adds.whole.text ∙ whole_texts-one t pool holds all ∙ ap (text.labelled pool) value

  pub length_added : byte_len new ≡ byte_len old + length bytes
  length_added =
      let pair : ℕ → ℕ × ℕ = λ b. (b, pool) in
      omega (
        arith,
        ap byte_len adds.added,
        byte_len-append old adds.slices,
        length-text_of t adds.slices,
        ap length text_added,
        length-map bytes pair,
      )

  pub bytes_added : Moves s t [] (held_bufs holds)
      → MadeOn s.arena t.arena (held_bufs holds) (lowest_of s pool (length bytes))
      → IsSameBut (lowest_of s pool (length bytes)) s.arena t.arena → Grows s.arena t.arena
      → (AllReclaimed s → AllReclaimed t) → t.pools ≡ s.pools → AddsBytes s t old new pool bytes
  bytes_added moves made others grows reclaims pools = record {
    slices = adds.slices;
    few =
        few_made s s.arena t.arena adds.slices pool (length bytes)
        (subst (λ bs. MadeOn s.arena t.arena bs (lowest_of s pool (length bytes))) (sym adds.whole.bufs) made);
    added = adds.added;
    is_text = text_added;
    readable = adds.whole.readable;
    moves = subst (λ bs. Moves s t [] bs) (sym adds.whole.bufs) moves;
    made_on = subst (λ bs. MadeOn s.arena t.arena bs (lowest_of s pool (length bytes))) (sym adds.whole.bufs) made;
    pages = keeps_pages_made made others grows pools;
    reclaims = reclaims;
    pools = pools;
  }

-- zero bytes make no buffer
pub none_added : (s : Stored) (old : List Slice) (pool : ℕ) → AddsBytes s s old old pool []
none_added s old pool = record {
  slices = [];
  few = omega arith;
  added = sym (append-nil old);
  is_text = refl;
  readable = readable_none s;
  moves = moves_none s;
  made_on = made_none s.arena (free_of s pool);
  pages = keeps_pages_made (made_none s.arena (free_of s pool)) (same_but_entries (lowest_of s pool 0) refl)
      (grows_none s.arena) refl;
  reclaims = λ h. h;
  pools = refl;
}
