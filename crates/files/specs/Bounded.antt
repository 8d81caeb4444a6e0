-- One request within another where names and values are numbers from 0 to 65,535.
use Rattle.ptacl.specs.Request.{Request, Within}
use Rattle.files.specs.Encoding.{InRange}

pub record WithinRange (q' q : Request) : Type 0 where
  pub within : Within q' q
  pub smaller : InRange q'
  pub larger : InRange q
