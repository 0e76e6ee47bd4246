use Rattle.std.proofs.Common.{◌≡◌, ◌+◌, ◌∙◌, ℕ, List, ap, rules}
use Rattle.std.specs.Prelude.{bytes_eq, option_map, position}
use Rattle.iol_core.specs.Calls.Files.{file_called}
use Rattle.iol_kernel.specs.Kernel.{as_read, state_of}
use Rattle.iol_kernel.specs.Readings.{Reading}
use Rattle.iol_kernel.proofs.FileCalls.Opens.{file_called-read_of}
use Rattle.iol_kernel.proofs.kernel.Kernel.find_file.Goals as goal

pub returns : goal.returns
returns c =
    let h = state_of c.args.self.now in
    let called : (f : Reading) → c.find.result ≡ file_called (as_read f c.args.self.now) c.args.name.now = λ f.
    c.find.ensures
    ∙ ap (λ (w : List ℕ). option_map (λ i. i + 1) (position (λ x. bytes_eq x.name w) h.files)) c.as_slice.ensures
    ∙ file_called-read_of f h c.args.name.now
    in
    search (rules, called)
