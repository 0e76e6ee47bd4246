use Rattle.std.proofs.Common.{ℕ, ◌+◌, List, ap, sym, ◌∙◌, subst}
use Rattle.std.specs.Prelude.{slice_range}
use Rattle.std.proofs.lemmas.Result.{IfOk-weaker}
use Rattle.flash_http.specs.Window.{window_in}
use Rattle.flash_http.specs.Request.{answer, IsAnswerTo}
use Rattle.flash_laws.specs.Conn.{Conn}
use Rattle.flash_laws.specs.declared.phase.Phase.TheVariants.{Receiving}
use Rattle.flash_lite.proofs.Responses.FirstCall.{starts_head}
use Rattle.flash_lite.proofs.conn.Conn.start.Goals as goal

pub returns-in_ok-asked-in-Head-clause-starts : goal.returns-in_ok-asked-in-Head-clause-starts
returns-in_ok-asked-in-Head-clause-starts c =
    let buffered = c.as_slice.ensures.value ∙ ap (λ (x : Conn). x.buffered) c.self.view_is in
    let again = c.deref.ensures.value ∙ ap (λ (x : Conn). x.buffered) c.self.view_is in
    IfOk-weaker c.begin-in-Head.result _ _
    (λ call begun. starts_head (record c.args.self.now { phase = Receiving }) c.begin-in-Head.new.self c.in-Head.skip
    c.in-Head.len (answer c.in_ok-asked-in-Head.asked)
    (ap (λ (l : List ℕ). window_in l) (sym buffered) ∙ (sym c.window_of.ensures.window ∙ c.in-Head.is))
    (subst (λ (l : List ℕ). IsAnswerTo (slice_range l c.in-Head.skip (c.in-Head.skip + c.in-Head.len))
    (answer c.in_ok-asked-in-Head.asked)) again c.in_ok-asked-in-Head.ensures.answer)
    begun) c.begin-in-Head.ensures.begun
