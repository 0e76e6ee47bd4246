use Rattle.std.proofs.Common.{ap, ◌∙◌, ◌++◌, List, ℕ}
use Rattle.flash_http.specs.Response.{head_text, error_body}
use Rattle.flash_http.specs.declared.responses.ResponseHead.{ResponseHead}
use Rattle.flash_laws.specs.Answers.{body_unless}
use Rattle.flash_lite.proofs.Responses.Texts.{error_text_is}
use Rattle.flash_lite.proofs.conn.answers.error_text.Goals as goal

pub returns : goal.returns
returns c = c.in_ok-add_body.ensures
    ∙ (ap (λ (l : List ℕ). l ++ body_unless c.args.head_only (error_body c.args.status)) (c.in_ok-bytes.ensures
    ∙ ap (λ (h : ResponseHead). head_text h) c.of_refusal-head.ensures)
    ∙ error_text_is c.args.status c.args.head_only c.args.close)
