use Rattle.std.proofs.Common.{◌≡◌, ◌<◌, ◌∙◌, sym, ap, subst, [], ◌∷◌}
use Rattle.iol_core.specs.declared.numbers.BufId.{BufId}
use Rattle.iol_hold.specs.StoreState.{Stored, Buffer, count_of}
use Rattle.iol_hold.specs.Moves.{Shares}
use Rattle.iol_hold.proofs.Moves.{covers_first, covers_given}
use Rattle.test_iol_store.proofs.tests.holds.share_and_cut.Goals as goal

shared : (s t : Stored) (b d : BufId) → Shares s t [] (b ∷ []) → d ≡ b → 0 < count_of t d
shared s t b d m e = subst (λ (x : BufId). 0 < count_of t x) (sym e) (covers_first b [] (covers_given m.counts))

pub count-requires-2 : goal.count-requires-2
count-requires-2 g c = shared _ c.share-twin.new.store _ c.buf-2.result c.share-twin.ensures.shares (c.buf-2.ensures
    ∙ ap (λ (h : Buffer). h.buf) c.share-twin.ensures.hold)
