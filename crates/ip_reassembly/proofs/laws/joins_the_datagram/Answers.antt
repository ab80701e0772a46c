use Rattle.ip_reassembly.proofs.Datagrams.{datagram_ends, datagram_each, datagram_made}
use Rattle.ip_reassembly.proofs.Latest.{octet_found, found_octet, total_found, found_total}
use Rattle.ip_reassembly.proofs.laws.joins_the_datagram.Goals as goal

pub returns : goal.returns
returns c = λ pieces d. (
  (λ made. record {
    ends = total_found pieces _ (datagram_ends pieces d made);
    each = λ i less. octet_found pieces i _ (datagram_each pieces d made i less);
  }),
  (λ is. datagram_made pieces d (found_total pieces _ is.ends) (λ i less. found_octet pieces i _ (is.each i less))),
)
