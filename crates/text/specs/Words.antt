-- The twelve words.
use Rattle.std.specs.Prelude.{ℕ, zero, suc, List, [], ◌∷◌}
use Prim.Native.Char.{code}
use Prim.Native.String.{String, len, char_at}
use Rattle.ptacl.specs.Term.{Sort, target, policy, Node, an_atom, a_deny, an_allow, a_targeted, a_not, a_default, an_and, an_or}

-- the bytes of a text of so many letters, from a place on
abbrev letters_from : ℕ → ℕ → String → List ℕ
letters_from zero at t = []
letters_from (suc k) at t = code (char_at t at) ∷ letters_from k (suc at) t

abbrev pub letters : String → List ℕ
letters t = letters_from (len t) 0 t

abbrev pub word : {s : Sort} → Node s → List ℕ
word an_atom = letters "tatom"
word (a_not target) = letters "tnot"
word (a_default target) = letters "topt"
word (an_and target) = letters "tand"
word (an_or target) = letters "tor"
word a_deny = letters "pzero"
word an_allow = letters "pone"
word a_targeted = letters "ptar"
word (a_not policy) = letters "pnot"
word (a_default policy) = letters "pdbd"
word (an_and policy) = letters "pand"
word (an_or policy) = letters "por"
