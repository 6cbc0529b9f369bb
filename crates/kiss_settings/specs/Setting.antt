-- What a builder of a setting answers, for any of its commands: `built` of document 01's builders with the command and the byte left open. Assumes nothing.
use Rattle.std.specs.Prelude.{ℕ, List, [], ◌∷◌, Result}
use Rattle.kiss_layout.specs.declared.KissCommand.{KissCommand}
use Rattle.kiss_layout.specs.declared.BuildError.{BuildError}
use Rattle.kiss_layout.specs.Frame.{frame}
use Rattle.kiss_layout.specs.Build.{header_of, port_refusal, unless}

unfoldable pub setting : ℕ → KissCommand → ℕ → List ℕ → Result ℕ BuildError × List ℕ
setting port command value d = unless (port_refusal port) (frame (header_of port command) (value ∷ [])) d
