-- The ways a call can end. A promise is a nest of them, in the order of refusals: the policy file or text
-- first, then the request file, then 12, 13, 14. `before` is what the lent memory held; a refusal leaves it so.
use Rattle.std.specs.Prelude.{ℕ, ◌≡◌, Bool, true, false, List, ltb, length}
use Rattle.ptacl.specs.Request.{Request}
use Rattle.ptacl.specs.Term.{Policy}
use Rattle.files.specs.Encoding.{IsPolicy, IsRequest}
use Rattle.files.specs.Refusal.{Read, refused}
use Rattle.files.specs.ReadPolicy.{read_policy}
use Rattle.files.specs.ReadRequest.{read_request}
use Rattle.files.specs.Memory.{over}
use Rattle.text.specs.Line.{IsText}
use Rattle.text.specs.ReadText.{read_text}
use Rattle.sinkheron.specs.Answer.{Answer, refusal, success, Promise}

-- a file's refusals; else what follows for that which it is the file of
pub data Reads {F A M : Type 0} (read : Read F) (IsFile : F → Type 0) (before : M) (follows : F → Promise A M) : Answer A → M → Type 0 where
  unread : {n at : ℕ} → read ≡ refused n at → Reads read IsFile before follows (refusal n at) before
  holding : {f : F} {x : Answer A} {after : M} → IsFile f → follows f x after → Reads read IsFile before follows x after

abbrev pub OfPolicy : {A M : Type 0} → List ℕ → M → (Policy → Promise A M) → Promise A M
OfPolicy policy = Reads (read_policy policy) (IsPolicy policy)

abbrev pub OfText : {A M : Type 0} → List ℕ → M → (Policy → Promise A M) → Promise A M
OfText text = Reads (read_text text) (IsText text)

abbrev pub OfRequest : {A M : Type 0} → List ℕ → M → (Request → Promise A M) → Promise A M
OfRequest request = Reads (read_request request) (IsRequest request)

-- what follows for the one thing that meets a definition
pub data The {T A M : Type 0} (Is : T → Type 0) (follows : T → Promise A M) : Answer A → M → Type 0 where
  the : {t : T} {x : Answer A} {after : M} → Is t → follows t x after → The Is follows x after

-- a refusal exactly if a test is true; else what follows
pub data RefusedIf {A M : Type 0} (test : Bool) (n at : ℕ) (before : M) (follows : Promise A M) : Answer A → M → Type 0 where
  stops : test ≡ true → RefusedIf test n at before follows (refusal n at) before
  passes : {x : Answer A} {after : M} → test ≡ false → follows x after → RefusedIf test n at before follows x after

-- a success with these values, and memory that then holds this
pub data Gives {A M : Type 0} (v : A) (after : M) : Answer A → M → Type 0 where
  gives : Gives v after (success v) after

-- 13 exactly if the lent memory is shorter than what is to be written; else that, at its front, and its length. What lies past it is kept.
abbrev pub Writes : List ℕ → List ℕ → Promise ℕ (List ℕ)
Writes xs before = RefusedIf (ltb (length before) (length xs)) 13 0 before (Gives (length xs) (over xs before))
