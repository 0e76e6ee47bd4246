use Rattle.std.proofs.Common.{rules, ◌≡◌, ◌∙◌, ◌++◌, ℕ, [], length, drop, ap, sym, arith}
use Rattle.std.proofs.lemmas.List.{length-map}
use Rattle.iol_core.specs.Text.{bytes_of}
use Rattle.iol_hold.specs.Places.{byte_len}
use Rattle.iol_hold.specs.Texts.{text_of}
use Rattle.iol_hold.proofs.ReadSlices.{length-text_of}
use Rattle.iol_kernel.specs.Calls.{Shows}
use Rattle.iol_kernel.specs.Kernel.{state_of}
use Rattle.iol_kernel.specs.Readings.{bytes_over}
use Rattle.iol_kernel.proofs.State.Sound.{agg_readable}
use Rattle.iol_kernel.proofs.kernel.Kernel.show_into.Goals.{then-len-into, else-len-into}
use Rattle.iol_kernel.proofs.kernel.Kernel.show_into.Goals as goal

pub copy_to_front-requires-clause-readable : goal.copy_to_front-requires-clause-readable
copy_to_front-requires-clause-readable c =
    agg_readable (state_of c.args.self.now) c.args.by c.args.agg c.in_ok-found.found.now c.requires
    c.in_ok-found.ensures.ok.found

pub returns : goal.returns
returns c =
    let h = state_of c.args.self.now in
    let s = c.args.self.now.store in
    let xs = c.in_ok-found.found.now in
    let memory = c.args.into.now in
    let e = c.in_ok-found.ensures.ok in
    let bytes = bytes_of (text_of s xs) in
    let long : length bytes ≡ byte_len xs = length-map (text_of s xs) (λ (b : ℕ × ℕ). b.0) ∙ length-text_of s xs in
    let text = ap bytes_of (sym (e.text (bytes_over [] s))) in
    let shows : Shows c.args.by c.args.agg bytes h = search (rules, text) in
    record {
      bytes = bytes;
      shows = shows;
      refused = tt;
      count = c.len-len.ensures ∙ sym long;
      fits = λ room. elim c.if-len-into.branch [
        | then-len-into w ↦ w.into-is ∙ w.copy_to_front.ensures ∙ ap (λ (n : ℕ). bytes ++ drop n memory) (sym long)
        | else-len-into w ↦ absurd (omega (arith, w.if-len-into.false, c.len-len.ensures, long, room))
      ];
      full = λ short. elim c.if-len-into.branch [
        | then-len-into w ↦ absurd (omega (arith, w.if-len-into.true, c.len-len.ensures, long, short))
        | else-len-into w ↦ w.into-is
      ];
      err = tt;
    }
