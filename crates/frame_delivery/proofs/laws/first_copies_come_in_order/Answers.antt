use Rattle.frame_delivery.proofs.Since.{order_is_needed, short_in_order}
use Rattle.frame_delivery.proofs.Times.{apart_not_late, short_firsts}
use Rattle.frame_delivery.proofs.Together.{firsts_together, passing_together}
use Rattle.frame_delivery.proofs.laws.first_copies_come_in_order.Goals as goal

pub returns : goal.returns
returns c = record {
  all = λ numbering timing copies times apart. (apart_not_late timing apart, short_firsts numbering timing copies times apart);
  passing = short_in_order;
  each_network_keeps_the_order = firsts_together;
  each_network_of_passing = passing_together;
  no_less_would_do = order_is_needed;
}
