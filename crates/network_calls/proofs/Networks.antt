-- A network and its user are one.
use Rattle.std.proofs.Common.{◌≡◌, true, refl}
use Rattle.es_base.specs.declared.place.Net.{Net}
use Rattle.es_base.specs.declared.place.Net.TheVariants.{A, B}
use Rattle.es_base.specs.Networks.{is_same_net}
use Rattle.network_calls.specs.Calls.{net_of, user_of}

pub same_net : (net : Net) → is_same_net net net ≡ true
same_net A = refl
same_net B = refl

pub nets_same : (m n : Net) → is_same_net m n ≡ true → m ≡ n
nets_same A A same = refl
nets_same B B same = refl
nets_same A B same = cc
nets_same B A same = cc

pub back : (net : Net) → net_of (user_of net) ≡ net
back A = refl
back B = refl
