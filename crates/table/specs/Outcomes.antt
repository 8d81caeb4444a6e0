-- What terms come to for a list of requests, and what the rows' operations do at a lane. On the sets that terms come to these are PTaCL's
-- operations (proofs/Laws.antt): no policy comes to the empty set, and a target to one value.
use Rattle.std.specs.Prelude.{false, not, ◌&&◌, ◌||◌, List, map}
use Rattle.std.specs.Simd.Lanes.{zip2}
use Rattle.ptacl.specs.Value.{v1, v0}
use Rattle.ptacl.specs.Values.{Values, single}
use Rattle.ptacl.specs.Request.{Request}
use Rattle.ptacl.specs.Term.{Sort, target, policy, Term}
use Rattle.ptacl.specs.Meaning.{Meaning, atom_at, eval}
use Rattle.files.specs.Reading.{Steps}
use Rattle.files.specs.declared.tag.Tag.{Tag}
use Rattle.table.specs.Rows.{every_lane, of_target}

-- a target's value is told as the set of that value alone
abbrev pub set_of_meaning : (s : Sort) → Meaning s → Values
set_of_meaning target v = single v
set_of_meaning policy x = x

abbrev pub outcomes : List Request → {s : Sort} → Term s → List Values
outcomes qs {s} t = map (λ q. set_of_meaning s (eval t q)) qs

abbrev pub not_target : Values → Values
not_target s = of_target s.has0 s.has1

abbrev pub optional_target : Values → Values
optional_target s = of_target s.has1 (not s.has1)

abbrev pub and_target : Values → Values → Values
and_target s r = of_target (s.has1 && r.has1) (s.has0 || r.has0)

abbrev pub or_target : Values → Values → Values
or_target s r = of_target (s.has1 || r.has1) (s.has0 && r.has0)

abbrev pub not_set : Values → Values
not_set s = record { has1 = s.has0; has0 = s.has1; has_u = s.has_u }

abbrev pub default_set : Values → Values
default_set s = record { has1 = s.has1; has0 = s.has0 || s.has_u; has_u = false }

-- of a target and of a body
abbrev pub targeted_set : Values → Values → Values
targeted_set t s = record { has1 = s.has1 && not t.has0; has0 = s.has0 && not t.has0; has_u = s.has_u || not t.has1 }

abbrev pub and_set : Values → Values → Values
and_set s r = record {
  has1 = s.has1 && r.has1;
  has0 = s.has0 || r.has0;
  has_u = s.has_u && (r.has1 || r.has_u) || r.has_u && (s.has1 || s.has_u);
}

abbrev pub or_set : Values → Values → Values
or_set s r = not_set (and_set (not_set s) (not_set r))

-- what a node makes of what the terms below it come to
abbrev pub leaf_set : Tag → Values
leaf_set Tag.Allow = single v1
leaf_set tag = single v0

abbrev pub one_set : Tag → Values → Values
one_set Tag.TargetNot = not_target
one_set Tag.TargetOptional = optional_target
one_set Tag.PolicyNot = not_set
one_set tag = default_set

abbrev pub two_set : Tag → Values → Values → Values
two_set Tag.TargetAnd = and_target
two_set Tag.TargetOr = or_target
two_set Tag.Targeted = targeted_set
two_set Tag.PolicyAnd = and_set
two_set tag = or_set

abbrev pub row_steps : List Request → Steps (List Values)
row_steps qs = record {
  numbers = λ n v. map (λ q. single (atom_at q n v)) qs;
  leaf = λ tag. every_lane (leaf_set tag);
  one = λ tag xs. map (one_set tag) xs;
  two = λ tag xs ys. zip2 (two_set tag) xs ys;
}
