-- Targets: examples.
use Rattle.std.proofs.Common.{◌≡◌, true, false, refl}
use Rattle.std.specs.Prelude.{codes}
use Rattle.std.specs.List.{list_any}
use Rattle.percent_encoding.specs.Percent.{percent_decode}
use Rattle.flash_http.specs.Target.{is_escaped, segments, is_dot_segment, file_name}

escapes : is_escaped (codes "/a%2Fb") ≡ true
escapes = refl

half_an_escape : is_escaped (codes "/a%2") ≡ false
half_an_escape = refl

dot_segments : list_any is_dot_segment (segments (percent_decode (codes "/a/%2e%2E/b"))) ≡ true
unfolding percent_decode
dot_segments = refl

dots_in_a_name : list_any is_dot_segment (segments (codes "/a/..b/c.")) ≡ false
dots_in_a_name = refl

-- The name under the root. An escaped percent sign is not decoded twice, and only one slash is removed.
names : (file_name (codes "/") ≡ codes "index.html")
    × (file_name (codes "/a%20b/c.txt") ≡ codes "a b/c.txt")
    × (file_name (codes "/%252e") ≡ codes "%2e")
    × (file_name (codes "//a") ≡ codes "/a")
unfolding percent_decode
names = (refl, refl, refl, refl)
