use Rattle.std.proofs.Common.{◌^◌, ◌-◌}
use Rattle.node_settings.specs.Values.{IsNameText, IsSwitch, IsText, IsPath, IsAddressText, IsTargetText, IsOff, IsNumber, IsLeaseType, IsFlag, IsUrlText, IsUrls, IsKeyText}
use Rattle.node_settings.proofs.Answering.{fits_from}
use Rattle.node_settings.proofs.keeping.fits.Goals as goal

pub returns-in-Database : goal.returns-in-Database
returns-in-Database c = rw c.in-Database.is (fits_from IsNameText _ c.name.result c.judged.result c.name.ensures c.judged.ensures)

pub returns-in-Log : goal.returns-in-Log
returns-in-Log c = rw c.in-Log.is (fits_from IsSwitch _ c.switch.result c.judged-in-Log.result c.switch.ensures c.judged-in-Log.ensures)

pub returns-in-Listen : goal.returns-in-Listen
returns-in-Listen c = rw c.in-Listen.is (fits_from IsText _ c.text.result c.judged-in-Listen.result c.text.ensures c.judged-in-Listen.ensures)

pub returns-in-Dir : goal.returns-in-Dir
returns-in-Dir c = rw c.in-Dir.is (fits_from IsPath _ c.path.result c.judged-in-Dir.result c.path.ensures c.judged-in-Dir.ensures)

pub returns-in-Program : goal.returns-in-Program
returns-in-Program c = rw c.in-Program.is (fits_from IsPath _ c.path-in-Program.result c.judged-in-Program.result c.path-in-Program.ensures c.judged-in-Program.ensures)

pub returns-in-ProxyAddr : goal.returns-in-ProxyAddr
returns-in-ProxyAddr c = rw c.in-ProxyAddr.is (fits_from IsAddressText _ c.address-in-ProxyAddr.result c.judged-in-ProxyAddr.result c.address-in-ProxyAddr.ensures c.judged-in-ProxyAddr.ensures)

pub returns-in-Target : goal.returns-in-Target
returns-in-Target c = rw c.in-Target.is (fits_from IsTargetText _ c.target.result c.judged-in-Target.result c.target.ensures c.judged-in-Target.ensures)

pub returns-in-HaltTtl : goal.returns-in-HaltTtl
returns-in-HaltTtl c = rw c.in-HaltTtl.is (fits_from (IsNumber 1 86400000) _ c.number-in-HaltTtl.result c.judged-in-HaltTtl.result c.number-in-HaltTtl.ensures c.judged-in-HaltTtl.ensures)

pub returns-in-Addr : goal.returns-in-Addr
returns-in-Addr c = rw c.in-Addr.is (fits_from IsAddressText _ c.address.result c.judged-in-Addr.result c.address.ensures c.judged-in-Addr.ensures)

pub returns-in-Compress : goal.returns-in-Compress
returns-in-Compress c = rw c.in-Compress.is (fits_from IsOff _ c.off.result c.judged-in-Compress.result c.off.ensures c.judged-in-Compress.ensures)

pub returns-in-RetentionFiles : goal.returns-in-RetentionFiles
returns-in-RetentionFiles c = rw c.in-RetentionFiles.is (fits_from (IsNumber 1 (2 ^ 63 - 1)) _ c.number.result c.judged-in-RetentionFiles.result c.number.ensures c.judged-in-RetentionFiles.ensures)

pub returns-in-Type : goal.returns-in-Type
returns-in-Type c = rw c.in-Type.is (fits_from IsLeaseType _ c.lease_type.result c.judged-in-Type.result c.lease_type.ensures c.judged-in-Type.ensures)

pub returns-in-Candidate : goal.returns-in-Candidate
returns-in-Candidate c = rw c.in-Candidate.is (fits_from IsFlag _ c.flag.result c.judged-in-Candidate.result c.flag.ensures c.judged-in-Candidate.ensures)

pub returns-in-Bootstrap : goal.returns-in-Bootstrap
returns-in-Bootstrap c = rw c.in-Bootstrap.is (fits_from IsFlag _ c.flag-in-Bootstrap.result c.judged-in-Bootstrap.result c.flag-in-Bootstrap.ensures c.judged-in-Bootstrap.ensures)

pub returns-in-AdvertiseUrl : goal.returns-in-AdvertiseUrl
returns-in-AdvertiseUrl c = rw c.in-AdvertiseUrl.is (fits_from IsUrlText _ c.url.result c.judged-in-AdvertiseUrl.result c.url.ensures c.judged-in-AdvertiseUrl.ensures)

pub returns-in-Hostname : goal.returns-in-Hostname
returns-in-Hostname c = rw c.in-Hostname.is (fits_from IsText _ c.text-in-Hostname.result c.judged-in-Hostname.result c.text-in-Hostname.ensures c.judged-in-Hostname.ensures)

pub returns-in-ServiceUrl : goal.returns-in-ServiceUrl
returns-in-ServiceUrl c = rw c.in-ServiceUrl.is (fits_from IsUrlText _ c.url-in-ServiceUrl.result c.judged-in-ServiceUrl.result c.url-in-ServiceUrl.ensures c.judged-in-ServiceUrl.ensures)

pub returns-in-Ttl : goal.returns-in-Ttl
returns-in-Ttl c = rw c.in-Ttl.is (fits_from (IsNumber 1 86400000) _ c.number-in-Ttl.result c.judged-in-Ttl.result c.number-in-Ttl.ensures c.judged-in-Ttl.ensures)

pub returns-in-Endpoints : goal.returns-in-Endpoints
returns-in-Endpoints c = rw c.in-Endpoints.is (fits_from IsUrls _ c.urls.result c.judged-in-Endpoints.result c.urls.ensures c.judged-in-Endpoints.ensures)

pub returns-in-EtcdKey : goal.returns-in-EtcdKey
returns-in-EtcdKey c = rw c.in-EtcdKey.is (fits_from IsKeyText _ c.key_text.result c.judged-in-EtcdKey.result c.key_text.ensures c.judged-in-EtcdKey.ensures)
