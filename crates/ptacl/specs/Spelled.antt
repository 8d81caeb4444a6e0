-- A term with every or spelled out as not(and(not, not)).
use Rattle.ptacl.specs.Term.{Sort, Term, atom, deny, allow, targeted, not, default, and, or}

abbrev pub spelled : {s : Sort} → Term s → Term s
spelled (atom n v) = atom n v
spelled deny = deny
spelled allow = allow
spelled (targeted t p) = targeted (spelled t) (spelled p)
spelled (not t) = not (spelled t)
spelled (default t) = default (spelled t)
spelled (and t u) = and (spelled t) (spelled u)
spelled (or t u) = not (and (not (spelled t)) (not (spelled u)))
