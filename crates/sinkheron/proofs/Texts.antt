-- What read_text and write_text write, each reads back from the other; and how their code comes to their promises.
use Prim.Native.Nat.{ℕ}
use mathlib.Core.Path.{refl}
use mathlib.Core.List.{List}
use lib.ListN.{length, get_or, take}
use mir.Syntax.{w8}
use mir.Val.{Fits}
use borrow.Author.Tests.{le-ltb}
use Rattle.files.specs.Encoding.{policy_file, IsPolicy}
use Rattle.files.specs.ReadPolicy.{read_policy}
use Rattle.files.proofs.Framing.{lent_bytes}
use Rattle.files.proofs.Memory.{over_front}
use Rattle.files.proofs.PolicyExact.{policy_exact}
use Rattle.text.specs.Line.{line, IsText}
use Rattle.text.specs.Held.{Holds}
use Rattle.text.specs.ReadText.{read_text}
use Rattle.text.proofs.TextExact.{text_exact}
use Rattle.sinkheron.specs.Answer.{Answer, success}
use Rattle.sinkheron.specs.Ways.{holding, Writes, passes, gives}
use Rattle.sinkheron.specs.ReadText.{ReadsText}
use Rattle.sinkheron.specs.WriteText.{WritesText}
use Rattle.sinkheron.specs.Handed.{GivesBack}
use Rattle.sinkheron.proofs.OutputOne.{read_text_same, write_text_same}

-- ---- there and back

-- the theorem: text to file to text gives the same bytes
pub text_back : {text before after : List ℕ} {k : ℕ} → ReadsText text before (success k) after → GivesBack WritesText text (take k after)
text_back {text} {before} (holding {f = p} t w) = written w
  where
    written : {k : ℕ} {after : List ℕ} → Writes (policy_file p) before (success k) after → GivesBack WritesText text (take k after)
    written (passes l gives) = record {
      back = λ {space} {after} h w.
          let f : IsPolicy (policy_file p) p = record { file = refl; fits = t.fits } in
          write_text_same _ _ _ _ (rw (over_front (policy_file p) before) at w) (rw t.text (holding f (passes (le-ltb (length space) (length (line p)) (rw t.text at h)) gives)));
    }

-- the theorem: file to text to file gives the same bytes
pub file_back : {policy before after : List ℕ} {k : ℕ} → WritesText policy before (success k) after → GivesBack ReadsText policy (take k after)
file_back {policy} {before} (holding {f = p} f w) = written w
  where
    written : {k : ℕ} {after : List ℕ} → Writes (line p) before (success k) after → GivesBack ReadsText policy (take k after)
    written (passes l gives) = record {
      back = λ {space} {after} h w.
          let t : IsText (line p) p = record { text = refl; fits = f.fits } in
          read_text_same _ _ _ _ (rw (over_front (line p) before) at w) (rw f.file (holding t (passes (le-ltb (length space) (length (policy_file p)) (rw f.file at h)) gives)));
    }

-- ---- from the code

-- what lies at the front of the code's memory is handed over as the promise says
pub line_written : {text made before after : List ℕ} {n : ℕ} {x : Answer ℕ} → Holds policy_file made (read_text text) n
    → Writes (take n made) before x after → ReadsText text before x after
line_written {text} w h = holding ((text_exact text _).0 w.is) (rw w.front at h)

pub file_written : {policy made before after : List ℕ} {n : ℕ} {x : Answer ℕ} → ((i : ℕ) → Fits w8 (get_or policy i 0))
    → Holds line made (read_policy policy) n → Writes (take n made) before x after → WritesText policy before x after
file_written {policy} b w h = holding ((policy_exact policy (lent_bytes b) _).0 w.is) (rw w.front at h)
