-- Of MDMF all are known to fit; of SDMF the first four are compared.
use Rattle.share_storing.proofs.FieldLaws.{fits_all}
use Rattle.share_storing.proofs.fields.offsets_fit.Goals as goal

pub returns-in-Mdmf : goal.returns-in-Mdmf
returns-in-Mdmf c = rw (c.in-Mdmf.is, fits_all _ c.requires)
