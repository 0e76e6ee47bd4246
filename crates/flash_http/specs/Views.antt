-- The values that the private types of the parser represent.
use Rattle.std.specs.Prelude.{ℕ, List, string_bytes}
use Rattle.flash_http.specs.declared.heads.Parsed.{Parsed}
use Rattle.flash_http.specs.declared.targets.File.{File}
use Rattle.flash_http.specs.Request.{Reading}

abbrev pub reading : Parsed → Reading
reading p = record { method = p.method.now; target = p.target.now; minor = p.minor; fields = p.fields }

abbrev pub texts : File → List ℕ × List ℕ
texts file = (string_bytes file.name, string_bytes file.query)
