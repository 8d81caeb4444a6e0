-- The line of policy A, a line of both ors, and edges of a text's refusals, computed.
use Prim.Native.Nat.{ℕ, zero, suc}
use Prim.Native.String.{String}
use mathlib.Core.Path.{◌≡◌, refl}
use mathlib.Core.List.{List, [], ◌∷◌, ◌++◌, map}
use Rattle.ptacl.specs.Term.{Policy, atom, allow, targeted, not, and, or}
use Rattle.ptacl.proofs.Worked.{A, G}
use Rattle.files.specs.Refusal.{accepted, refused}
use Rattle.files.specs.Prefix.{spell, below, body, scan}
use Rattle.text.specs.Words.{letters}
use Rattle.text.specs.Line.{digits, ended, line}
use Rattle.text.specs.ReadText.{word_at, past, head_at, is_number, number_at, pair_at, read_text}

abbrev pub A-line : List ℕ
A-line = letters "pnot pdbd pnot ptar tatom 1 1 pzero\n"

pub A-written : line A ≡ A-line
unfolding line spell ended digits
A-written = refl

pub A-read : read_text A-line ≡ accepted A
unfolding read_text scan body below head_at word_at past is_number number_at pair_at digits
A-read = refl

-- an or of policies, and one of targets
abbrev pub or_line : List ℕ
or_line = letters "por pone pdbd ptar tor tatom 1 2 tatom 2 1 pone\n"

pub or_written : line (or allow G) ≡ or_line
unfolding line spell ended digits
or_written = refl

pub or_read : read_text or_line ≡ accepted (or allow G)
unfolding read_text scan body below head_at word_at past is_number number_at pair_at digits
or_read = refl

-- the largest number, and the smallest
pub numbers_read : read_text (letters "ptar tatom 65535 0 pone\n") ≡ accepted (targeted (atom 65535 0) allow)
unfolding read_text scan body below head_at word_at past is_number number_at pair_at digits
numbers_read = refl

abbrev pub refusals : List (String × ℕ × ℕ)
refusals =
    -- 53: the text ends where a word is due, or a space, or the line feed; or what follows a number
    ("", 53, 0)
    ∷ ("pnot ", 53, 5)
    ∷ ("pnot", 53, 4)
    ∷ ("pone", 53, 4)
    ∷ ("ptar tatom 1", 53, 12)
    ∷ ("ptar tatom 1 65535", 53, 18)
    -- 51: no word, one of the other sort, or not all of one; a line feed for a space
    ∷ ("\n", 51, 0)
    ∷ (" pone\n", 51, 0)
    ∷ ("pnot  pone\n", 51, 5)
    ∷ ("ptar pzero\n", 51, 5)
    ∷ ("tor\n", 51, 0)
    ∷ ("ptar por\n", 51, 5)
    ∷ ("pon\n", 51, 0)
    ∷ ("pones\n", 51, 0)
    ∷ ("Pone\n", 51, 0)
    ∷ ("pnot\npone\n", 51, 4)
    ∷ ("ptar tatom 1\n1 pone\n", 51, 12)
    -- 52, never 51: an empty run where a number is due, also at the end; a word; a leading zero; 65,536; another byte
    ∷ ("ptar tatom ", 52, 11)
    ∷ ("ptar tatom  1 pone\n", 52, 11)
    ∷ ("ptar tatom 1 \n", 52, 13)
    ∷ ("ptar tatom pone\n", 52, 11)
    ∷ ("ptar tatom 1 pone\n", 52, 13)
    ∷ ("ptar tatom 01 1 pone\n", 52, 11)
    ∷ ("ptar tatom 1 00 pone\n", 52, 13)
    ∷ ("ptar tatom 65536 1 pone\n", 52, 11)
    ∷ ("ptar tatom 1 123456 pone\n", 52, 13)
    ∷ ("ptar tatom +1 1 pone\n", 52, 11)
    -- 54: another byte than the line feed behind the last word, or one that follows it
    ∷ ("pone ", 54, 4)
    ∷ ("pone pone\n", 54, 4)
    ∷ ("ptar tatom 1 1 pone \n", 54, 19)
    ∷ ("pone\n\n", 54, 5)
    ∷ ("pone\npone\n", 54, 5)
    ∷ []

pub refused_so : map (λ x. read_text (letters x.0)) refusals ≡ map (λ x. refused x.1 x.2) refusals
unfolding read_text scan body below head_at word_at past is_number number_at pair_at digits
refused_so = refl

-- 32 words deep are read, a 33rd is 6 at its first byte, before what is due behind it; but 51 if it is no word
abbrev deep : ℕ → List ℕ → List ℕ
deep zero rest = rest
deep (suc n) rest = letters "pnot " ++ deep n rest

abbrev nots : ℕ → Policy → Policy
nots zero p = p
nots (suc n) p = not (nots n p)

pub depth_32 : read_text (deep 31 (letters "pone\n")) ≡ accepted (nots 31 allow)
unfolding read_text scan body below head_at word_at past is_number number_at pair_at digits
depth_32 = refl

pub depth_33 : map (λ x. read_text (deep 32 (letters x))) ("pone\n" ∷ "pone" ∷ "poney\n" ∷ "" ∷ [])
    ≡ refused 6 160 ∷ refused 6 160 ∷ refused 51 160 ∷ refused 53 160 ∷ []
unfolding read_text scan body below head_at word_at past is_number number_at pair_at digits
depth_33 = refl

-- 255 words are read, a 256th is 7 at its first byte, but 6 where it is at depth 33 too
abbrev tree : ℕ → Policy
tree zero = allow
tree (suc n) = and (tree n) (tree n)

pub nodes_255 : read_text (line (tree 7)) ≡ accepted (tree 7)
unfolding read_text scan body below head_at word_at past is_number number_at pair_at digits line spell ended
nodes_255 = refl

pub nodes_256 : read_text (line (not (tree 7))) ≡ refused 7 1275
unfolding read_text scan body below head_at word_at past is_number number_at pair_at digits line spell ended
nodes_256 = refl

pub both_limits : read_text (line (and (and (tree 6) (and (tree 5) (tree 4))) (nots 31 allow))) ≡ refused 6 1275
unfolding read_text scan body below head_at word_at past is_number number_at pair_at digits line spell ended
both_limits = refl
