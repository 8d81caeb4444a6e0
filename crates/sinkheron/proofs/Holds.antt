-- A property of every answer that a promise permits, way by way: of a refusal's number and place, else of the values.
use Prim.Native.Nat.{ℕ}
use mathlib.Core.Path.{◌≡◌}
use mathlib.Core.Bool.{Bool, false}
use Rattle.files.specs.Refusal.{Read, refused}
use Rattle.sinkheron.specs.Answer.{Answer, refusal, success, Promise}
use Rattle.sinkheron.specs.Ways.{Reads, unread, holding, The, the, RefusedIf, stops, passes, Gives, gives}

abbrev pub Holds : {A : Type 0} → (ℕ → ℕ → Type 0) → (A → Type 0) → Answer A → Type 0
Holds fault can (refusal n at) = fault n at
Holds fault can (success v) = can v

abbrev pub AllHold : {A M : Type 0} → (ℕ → ℕ → Type 0) → (A → Type 0) → Promise A M → Type 0
AllHold {A} {M} fault can permits = (x : Answer A) (m : M) → permits x m → Holds fault can x

module _ {A M : Type 0} {fault : ℕ → ℕ → Type 0} {can : A → Type 0} where
  pub reads_hold : {F : Type 0} {read : Read F} {IsFile : F → Type 0} {before : M} {follows : F → Promise A M}
      → ((n at : ℕ) → read ≡ refused n at → fault n at) → ((f : F) → IsFile f → AllHold fault can (follows f))
      → AllHold fault can (Reads read IsFile before follows)
  reads_hold r o _ _ (unread {n} {at} e) = r n at e
  reads_hold r o x m (holding {f} h d) = o f h x m d

  pub the_holds : {T : Type 0} {Is : T → Type 0} {follows : T → Promise A M} → ((t : T) → Is t → AllHold fault can (follows t))
      → AllHold fault can (The Is follows)
  the_holds o x m (the {t} h d) = o t h x m d

  pub refused_if_holds : {test : Bool} {n at : ℕ} {before : M} {follows : Promise A M} → fault n at → (test ≡ false → AllHold fault can follows)
      → AllHold fault can (RefusedIf test n at before follows)
  refused_if_holds h o _ _ (stops e) = h
  refused_if_holds h o x m (passes e d) = o e x m d

pub gives_holds : {A M : Type 0} {v : A} {after : M} (fault : ℕ → ℕ → Type 0) (can : A → Type 0) → can v → AllHold fault can (Gives v after)
gives_holds fault can h _ _ gives = h
