-- `inverse_of` gives the kind of the other key. Assumes nothing.
use Rattle.knowledge.specs.Steps.{pk_sk, sk_pk}
use Rattle.knowledge.proofs.inverse_of.Goals as goal

pub returns-in-PublicKey : goal.returns-in-PublicKey
returns-in-PublicKey c = rw c.in-PublicKey.is pk_sk

pub returns-in-SecretKey : goal.returns-in-SecretKey
returns-in-SecretKey c = rw c.in-SecretKey.is sk_pk
