-- Whether lines tell that something is lost.
use Rattle.std.specs.Prelude.{Bool, true, false, ◌||◌, List, [], ◌∷◌}
use Rattle.civl_lines.specs.declared.line.Kind.{Kind}
use Rattle.civl_lines.specs.declared.line.Kind.TheVariants.{Info, Error}
use Rattle.civl_lines.specs.declared.line.Line.{Line}

abbrev pub is_error : Kind → Bool
is_error Error = true
is_error Info = false

-- one of them says where something is lost
abbrev pub tell_loss : List Line → Bool
tell_loss [] = false
tell_loss (l ∷ ls) = is_error l.kind || tell_loss ls
