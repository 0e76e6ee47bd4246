use Rattle.std.proofs.Common.{◌≡◌, ◌∙◌, ◌-◌, ap, sym, subst, length, List, ℕ, arith, All}
use Rattle.iol_core.specs.Text as text
use Rattle.iol_core.specs.declared.numbers.BufId.{BufId}
use Rattle.iol_arena.specs.State.{pages_for}
use Rattle.iol_arena.specs.Buffers.{bytes_in}
use Rattle.iol_hold.specs.StoreState.{Stored, Buffer, held_bufs}
use Rattle.iol_hold.specs.Texts.{text_of}
use Rattle.iol_hold.specs.declared.slices.Slice.{Slice}
use Rattle.iol_hold.proofs.ReadSlices.{length-text_of}
use Rattle.iol_agg.specs.Parts.{whole_texts}
use Rattle.iol_agg.proofs.Wholes.{whole_texts-one}
use Rattle.iol_cache.specs.Loads.{PlacesBuffers}
use Rattle.iol_cache.proofs.RangeReads.OnePool.{length-labelled, pooled_text}
use Rattle.iol_cache.proofs.read.gaps.gap_agg.Goals as goal

texts : (t : Stored) (xs : List Slice) (hs : List Buffer) (p : ℕ) → text_of t xs ≡ whole_texts t hs
    → All (λ (h : Buffer). h.pool ≡ p) hs → text_of t xs ≡ text.labelled p (bytes_in t.arena (held_bufs hs))
texts t xs hs p e one = e ∙ whole_texts-one t p hs one

pub of_holds-requires-clause-room : goal.of_holds-requires-clause-room
unfolding pages_for
of_holds-requires-clause-room g c =
    omega (arith, c.in-Ok-load.ensures.loads.few, c.div_ceil.ensures, c.in-Ok.ensures.exact)

pub of_holds-requires-clause-small : goal.of_holds-requires-clause-small
of_holds-requires-clause-small g c =
    let l = c.in-Ok-load.ensures.loads in
    let t = c.load.new.store in
    let bytes = bytes_in t.arena (held_bufs c.in-Ok-load.holds) in
    omega (
      arith,
      ap length (whole_texts-one t c.args.pool c.in-Ok-load.holds l.pooled),
      length-labelled c.args.pool bytes,
      l.len,
      c.requires.some,
      c.requires.fits,
    )

pub returns-clause-loads : goal.returns-clause-loads
returns-clause-loads g c =
    let l = c.in-Ok-load.ensures.loads in
    let t = c.load.new.store in
    let p = c.args.pool in
    let xs = c.of_holds.result in
    let bytes = bytes_in t.arena (held_bufs c.in-Ok-load.holds) in
    let e = texts t xs c.in-Ok-load.holds p c.of_holds.ensures.text l.pooled in
    record {
      placed = subst (λ (bs : List BufId). PlacesBuffers c.args.store.now t p (c.args.gap.to - c.args.gap.from) bs)
          (sym c.of_holds.ensures.bufs) l.placed;
      long = sym (length-text_of t xs) ∙ ap length e ∙ length-labelled p bytes ∙ l.len;
      readable = c.of_holds.ensures.readable;
      pooled = record { each = pooled_text t p xs bytes e };
      value = λ y. e ∙ ap (text.labelled p) (l.value y);
      inside = l.inside;
    }
