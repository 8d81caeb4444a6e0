-- Lent memory that is written from its front on: what is written of it, and how many bytes are left.
use Rattle.std.specs.Prelude.{ℕ, ◌≡◌, ◌+◌, ◌-◌, ◌≤◌, List, ◌++◌, length, take, drop}
use Rattle.text.specs.declared.output.Output.{Output}

abbrev pub written : Output → List ℕ
written out = take out.len out.space.now

abbrev pub room : Output → ℕ
room out = length out.space.now - out.len

-- what lies past what is written is as it was
abbrev pub Keeps : Output → Output → Type 0
Keeps old new = (old.len ≤ new.len) × (drop new.len new.space.now ≡ drop new.len old.space.now)

-- these bytes are written behind what was written, into the memory that was lent, and what lies past them is kept
abbrev pub Appends : Output → Output → List ℕ → Type 0
Appends old new xs =
    (written new ≡ written old ++ xs) × (room old ≡ room new + length xs) × (new.space.ghost_name ≡ old.space.ghost_name) × Keeps old new

-- and at most so many bytes are
abbrev pub AppendsFew : ℕ → Output → Output → List ℕ → Type 0
AppendsFew most old new xs =
    (written new ≡ written old ++ xs) × (room old ≤ room new + most) × (new.space.ghost_name ≡ old.space.ghost_name) × Keeps old new
