-- Windows: examples.
use Rattle.std.proofs.Common.{◌≡◌, [], ◌∷◌, refl}
use Rattle.std.specs.Prelude.{codes}
use Rattle.flash_http.specs.Window.{lines, window_in}
use Rattle.flash_http.specs.declared.windows.Window.TheVariants.{Wait, Head}

whole_lines : lines (codes "a\r\nbc\nd") ≡ codes "a\r" ∷ codes "bc" ∷ []
whole_lines = refl

-- a head, followed by the next one
first_of_two : window_in (codes "GET / HTTP/1.1\r\nHost: a\r\n\r\nGET /") ≡ Head 0 27
first_of_two = refl

-- empty lines before a head; lines may end with a line feed only
after_empty_lines : window_in (codes "\r\n\nGET / HTTP/1.0\n\n") ≡ Head 3 16
after_empty_lines = refl

-- the empty line at the end is incomplete
not_yet : window_in (codes "GET / HTTP/1.1\r\n\r") ≡ Wait
not_yet = refl

-- two carriage returns are no empty line
text_of_returns : window_in (codes "a\n\r\r\n\n") ≡ Head 0 6
text_of_returns = refl
