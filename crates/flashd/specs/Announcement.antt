-- The line that the program prints once it listens.
use Rattle.std.specs.Prelude.{List, ℕ, ◌++◌, Option, codes}
use Rattle.std.specs.Io.KnownBytes.{Appends}
use Rattle.std.specs.Net.Text.{socket_text}
use Rattle.std.specs.declared.net.socket_addr.SocketAddr.{SocketAddr}

abbrev pub announcement : SocketAddr → List ℕ
announcement address = codes "listening on http://" ++ socket_text address ++ codes "/\n"

-- this address was announced, on a line of its own
abbrev pub Announces : SocketAddr → (held now : Option (List ℕ)) → Type 0
Announces address held now = Appends held now (announcement address)
